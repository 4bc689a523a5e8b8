-- The bytes that are asked are those from index at on, and then the mark decides.
use Prim.Native.Nat.{ℕ, ◌-◌, ◌<◌}
use mathlib.Core.Path.{◌≡◌, sym, ap, ◌∙◌}
use mathlib.Core.Bool.{◌&&◌}
use mathlib.Core.List.{List}
use native.Mathlib.Omega.{arith}
use lib.Dec.{eqb}
use lib.ListN.{length, get_or, take, drop, length-drop}
use lib.Seq.{take_all}
use Rattle.codec.specs.Codec.{is}
use Rattle.header.specs.Header.{dash}
use Rattle.header_fields.specs.Stands.{asked}
use Rattle.header_fields.proofs.stands_at.Goals.{then-allows, else-allows}
use Rattle.header_fields.proofs.stands_at.Goals as goal

pub returns-in-Some : goal.returns-in-Some
returns-in-Some g c =
    let t = c.args.text.now in
    let at = c.args.at in
    let w = c.args.width in
    let rest = c.in-Some.rest.now in
    let all : rest ≡ drop at t = c.in-Some.ensures.lookup.0.2 ∙ take_all (length t - at) (drop at t) (omega (arith, length-drop at t)) in
    let long : w < length (drop at t) = omega (arith, ap (length {A = ℕ}) all, c.if-width-rest.true) in
    let said : c.if-allows.result ≡ c.allows.result && is dash (get_or (drop at t) w 0) =
    elim c.if-allows.branch [
      | then-allows v ↦ v.result-is ∙ ap (λ (l : List ℕ). eqb (get_or l w 0) 45) all ∙ sym (simp v.if-allows.true)
      | else-allows v ↦ v.result-is ∙ sym (simp v.if-allows.false)
    ] in
    asked c.allows.result long (record { shown = _; shows = ap (take w) all; says = record { met = c.allows.ensures } }) said
