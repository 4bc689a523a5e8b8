-- What is left to write, pasted at its index, gives the whole: the start, then origin and event, each with its mark.
use mathlib.Core.Path.{◌≡◌, refl, ◌∙◌}
use Prim.Native.Nat.{ℕ, ◌+◌}
use mathlib.Core.List.{List, [], ◌∷◌, ◌++◌}
use native.Mathlib.Omega.{arith}
use lib.ListN.{length, length-append}
use Rattle.laws.proofs.Pasted.{todo, step}
use Rattle.codec.proofs.Puts.{put_next}
use Rattle.header_writing.specs.Steps.{opening_text}
use Rattle.header_writing.proofs.Judged.{opening_length}
use borrow.Author.Rules.{rules}
use Rattle.header_writing.proofs.put_opening.Goals as goal

pub put_marked-requires : goal.put_marked-requires
put_marked-requires c = omega (arith)

pub put_marked-requires-2 : goal.put_marked-requires-2
put_marked-requires-2 c = omega (arith)

pub returns : goal.returns
unfolding opening_text
returns c =
    let a = c.args in
    let lo : 3 ≡ length a.f.now.origin = (search rules) in
    let le : 3 ≡ length a.f.now.event = (search rules) in
    let origin : List ℕ = a.f.now.origin ++ (45 ∷ []) in
    let event : List ℕ = a.f.now.event ++ (45 ∷ []) in
    let l : length (opening_text a.f.now) ≡ 13 = opening_length a.f.now lo le in
    let all = todo a.out.now 0 (opening_text a.f.now) (omega arith) in
    let fields = put_next (90 ∷ 67 ∷ 90 ∷ 67 ∷ 45 ∷ []) (origin ++ event) all c.put_bytes.ensures 5 refl in
    let n : 9 ≡ 5 + length origin = omega (arith, length-append a.f.now.origin (45 ∷ [])) in
    let last = step _ _ _ _ _ fields origin event _ 9 refl c.put_marked.ensures n in
    record { out_after = c.put_marked-2.ensures ∙ last.same; f_len = l }
