-- What is left to write, pasted at its index, gives the whole: duration, issue, sender.
use mathlib.Core.Path.{◌≡◌, refl, ◌∙◌}
use Prim.Native.Nat.{ℕ, ◌+◌}
use mathlib.Core.List.{List, [], ◌∷◌, ◌++◌}
use native.Mathlib.Omega.{arith}
use lib.ListN.{length, length-append}
use Rattle.laws.proofs.Pasted.{todo, step}
use Rattle.header_writing.specs.Steps.{duration_text, issue_text, closing_text}
use Rattle.header_writing.proofs.Judged.{duration_length, issue_length}
use borrow.Author.Rules.{rules}
use Rattle.header_writing.proofs.put_closing.Goals as goal

pub put_marked-requires : goal.put_marked-requires
put_marked-requires c = omega (arith)

pub returns : goal.returns
unfolding closing_text
returns c =
    let a = c.args in
    let ls : 8 ≡ length a.f.now.sender = (search rules) in
    let x : List ℕ = duration_text a.f.now.duration in
    let y : List ℕ = issue_text a.f.now.day a.f.now.hour a.f.now.minute in
    let z : List ℕ = a.f.now.sender ++ (45 ∷ []) in
    let lx : length x ≡ 5 = duration_length a.f.now.duration in
    let ly : length y ≡ 8 = issue_length a.f.now.day a.f.now.hour a.f.now.minute in
    let lz : length z ≡ 9 = length-append a.f.now.sender (45 ∷ []) ∙ omega arith in
    let l : length (closing_text a.f.now) ≡ 22 = length-append x (y ++ z) ∙ omega (arith, length-append y z) in
    let all = todo a.out.now a.at (closing_text a.f.now) (omega arith) in
    let rest = step _ _ _ _ _ all x (y ++ z) _ (a.at + 5) refl c.put_duration.ensures (omega arith) in
    let last = step _ _ _ _ _ rest y z _ (a.at + 13) refl c.put_issue.ensures (omega arith) in
    record { out_after = c.put_marked.ensures ∙ last.same; f_len = l }
