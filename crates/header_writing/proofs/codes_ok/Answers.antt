-- Of 1 to 31 codes the library's test of all is the definition's.
use mathlib.Core.Path.{◌≡◌, sym, ap, ◌∙◌}
use Prim.Native.Nat.{ℕ, ◌-◌, ◌≤◌}
use mathlib.Core.Bool.{false}
use mathlib.Core.List.{List}
use lib.ListN.{length, take}
use lib.Seq.{length-take-le}
use Rattle.std.specs.Prelude.{nat_eq}
use Rattle.laws.specs.Lists.{every}
use native.Mathlib.Omega.{arith}
use Rattle.std.proofs.Common.{rules, tests}
use Rattle.std.proofs.lemmas.Iterator.{YieldsList-from_slice}
use Rattle.std.proofs.lemmas.Iterator.Search.{all_from_yields_List}
use Rattle.laws.proofs.Every.{every_is}
use Rattle.header.specs.Header.{place}
use Rattle.header_writing.proofs.Judged.{codes_some}
use Rattle.header_writing.proofs.codes_ok.Goals as goal

-- the codes that stand
some : (codes s : List ℕ) (n : ℕ) → length codes ≡ 31 → n ≤ length codes → s ≡ take (n - 0) codes → false ≡ nat_eq (length s) 0
    → (s ≡ take n codes) × (1 ≤ n) × (n ≤ 31)
some codes s n l h e z =
    let w : n - 0 ≡ n = omega arith in
    let p : s ≡ take n codes = rw w at e in
    let k : length s ≡ n = ap length p ∙ length-take-le n codes h in
    (p, grind arith, omega arith)

pub returns-then-not-is_empty : goal.returns-then-not-is_empty
returns-then-not-is_empty c =
    let s = c.in-Some.standing.now in
    let q = c.in-Some.ensures.lookup.0 in
    let w = some c.args.codes.now s c.args.count c.told-codes q.1 q.2 c.if-not-is_empty.ensures in
    let all = all_from_yields_List place.ok _ _ _ c.all.ensures.ran (YieldsList-from_slice s cc) (λ x b q k. search (rules, tests)) in
    all ∙ every_is place.ok s ∙ ap (every place.ok) w.0 ∙ sym (codes_some c.args.codes.now c.args.count w.1 w.2 c.told-codes)
