-- Sender and places are pasted one behind the other.
use mathlib.Core.Path.{◌≡◌, sym, ap, ◌∙◌}
use Prim.Native.Nat.{◌≤◌}
use native.Mathlib.Omega.{arith}
use lib.ListN.{length}
use Rattle.laws.specs.Space.{pasted}
use Rattle.c_words.specs.Words.{back_words}
use Rattle.c_words.proofs.Pastes.{paste_two, back_length}
use borrow.Author.Rules.{rules}
use Rattle.c_words.proofs.put_back.Goals as goal

pub returns : goal.returns
unfolding back_words
returns c =
    let a = c.args in
    let h : 50 ≤ length a.out.now = c.requires in
    let o : 8 ≡ length a.f.sender = (search rules) in
    let e : 31 ≡ length a.f.places = (search rules) in (
      paste_two a.out.now _ _ 11 19 a.f.sender a.f.places (omega arith) (omega arith)
          (c.put_words.ensures ∙ ap (pasted a.out.now 11) c.wide.ensures) c.put_words-2.ensures,
      back_length a.f (sym o) (sym e),
    )
