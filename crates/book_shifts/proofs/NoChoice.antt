-- A promise says what the lent words then hold, so what two runs leave is equal.
use Prim.Native.Nat.{ℕ}
use mathlib.Core.List.{List}
use mathlib.Core.Path.{◌≡◌, sym, ◌∙◌}
use Rattle.book_shifts.specs.Promise.{OpenPromise, ClosePromise}

pub open_no_choice : (w : List ℕ) (at end x y : ℕ) (left kept : List ℕ) → OpenPromise w at end x y left → OpenPromise w at end x y kept → left ≡ kept
open_no_choice w at end x y left kept a b = a.lent ∙ sym b.lent

pub close_no_choice : (w : List ℕ) (at end : ℕ) (left kept : List ℕ) → ClosePromise w at end left → ClosePromise w at end kept → left ≡ kept
close_no_choice w at end left kept a b = a.lent ∙ sym b.lent
