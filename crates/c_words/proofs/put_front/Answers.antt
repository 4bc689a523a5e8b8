-- Origin, event and five numbers are pasted one behind the other.
use mathlib.Core.Path.{◌≡◌, sym, ap, ◌∙◌}
use Prim.Native.Nat.{◌≤◌}
use native.Mathlib.Omega.{arith}
use lib.ListN.{length}
use Rattle.laws.specs.Space.{pasted}
use Rattle.c_words.specs.Words.{front_words, numbers_of}
use Rattle.c_words.proofs.Pastes.{paste_three, front_length}
use borrow.Author.Rules.{rules}
use Rattle.c_words.proofs.put_front.Goals as goal

pub returns : goal.returns
unfolding front_words
returns c =
    let a = c.args in
    let h : (11 ≤ length a.out.now) × (a.f.count ≤ 31) = c.requires in
    let o : 3 ≡ length a.f.origin = (search rules) in
    let e : 3 ≡ length a.f.event = (search rules) in (
      paste_three a.out.now _ _ _ 0 3 6 a.f.origin a.f.event (numbers_of a.f) (omega arith) (omega arith) (omega arith)
          (c.put_words.ensures ∙ ap (pasted a.out.now 0) c.wide.ensures)
          (c.put_words-2.ensures ∙ ap (pasted c.put_words.new.out 3) c.wide-2.ensures) c.put_words-3.ensures,
      front_length a.f (sym o) (sym e),
    )
