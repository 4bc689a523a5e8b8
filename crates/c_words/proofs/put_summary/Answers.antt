-- The two stamps, the event and the rest are pasted one behind the other.
use mathlib.Core.Path.{◌≡◌, ap, ◌∙◌}
use Prim.Native.Nat.{ℕ, ◌≤◌}
use mathlib.Core.List.{List, ◌++◌}
use native.Mathlib.Omega.{arith}
use lib.ListN.{length}
use Rattle.laws.specs.Space.{pasted}
use Rattle.c_words.specs.Words.{stamp_words, rest_words, summary_words}
use Rattle.c_words.proofs.Pastes.{paste_three}
use borrow.Author.Rules.{rules}
use Rattle.c_words.proofs.put_summary.Goals as goal

pub returns : goal.returns
unfolding summary_words
returns c =
    let a = c.args in
    let h : 16 ≤ length a.out.now = c.requires in
    let e : 3 ≡ length a.s.event = (search rules) in
    let z : List ℕ = rest_words a.s in
    let x : List ℕ = stamp_words a.s.times.issued ++ stamp_words a.s.times.until in
    paste_three a.out.now _ _ _ 0 8 11 x a.s.event z (omega arith) (omega arith) (omega arith) c.put_words.ensures
    (c.put_words-2.ensures ∙ ap (pasted c.put_words.new.out 8) c.wide.ensures)
    (c.put_words-3.ensures ∙ ap (pasted c.put_words-2.new.out 11) c.rest_of-rest.ensures)
