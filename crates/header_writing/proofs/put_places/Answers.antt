-- The places from k on are left to write: their text, pasted at index at + 7 k, gives the whole.
use mathlib.Core.Path.{◌≡◌, ap, ◌∙◌}
use Prim.Native.Nat.{ℕ, ◌+◌, ◌*◌}
use mathlib.Core.List.{List, [], ◌∷◌, ◌++◌}
use native.Mathlib.Nat.{add-zero}
use native.Mathlib.Omega.{arith}
use lib.ListN.{length, get_or, drop}
use lib.Seq.{drop-length}
use Rattle.laws.specs.Numbers.{dig}
use Rattle.laws.proofs.Pasted.{todo, step, done}
use Rattle.header_writing.specs.Steps.{places_text}
use Rattle.header_writing.proofs.Marked.{places_length, places_more, places_last, text_none}
use Rattle.header_writing.proofs.put_places.Goals.{then-k-codes, else-k-codes}
use Rattle.header_writing.proofs.put_places.Goals as goal

pub loop-k-init : goal.loop-k-init
loop-k-init c =
    let a = c.args in
    (omega arith, rw add-zero (todo a.out.now a.at (places_text a.codes.now) (omega (arith, places_length a.codes.now))))

pub put_place-requires : goal.put_place-requires
put_place-requires c = omega (arith, c.loop-k.invariant.1.len)

pub loop-k-preserved : goal.loop-k-preserved
loop-k-preserved c =
    let k = c.loop-k.k in
    let s = c.args.codes.now in
    let place : List ℕ = dig 6 (get_or s k 0) ++ (c.if-k-codes.mark ∷ []) in
    let next : places_text (drop k s) ≡ place ++ places_text (drop (k + 1) s) =
    elim c.if-k-codes.branch [
      | then-k-codes w ↦ rw w.mark-is (places_more s k w.if-k-codes.true)
      | else-k-codes w ↦ rw w.mark-is (places_last s k (omega (arith, w.if-k-codes.false, c.loop-k-test.true)))
    ] in
    (omega arith, step _ _ _ _ _ c.loop-k.invariant.1 place (places_text (drop (k + 1) s)) _ (c.args.at + 7 * (k + 1)) next c.put_place.ensures (omega arith))

pub returns : goal.returns
returns c =
    let s = c.args.codes.now in
    let z : c.loop-k.k ≡ length s = omega (arith, c.loop-k.invariant.0) in
    let n : places_text (drop c.loop-k.k s) ≡ [] = ap (λ (m : ℕ). places_text (drop m s)) z ∙ ap places_text (drop-length s) ∙ text_none in
    done _ _ _ _ (rw n at c.loop-k.invariant.1)
