-- The promise says what the answer is equal to, so two answers that meet it are equal.
use Prim.Native.Nat.{ℕ}
use mathlib.Core.Bool.{Bool}
use mathlib.Core.List.{List}
use mathlib.Core.Path.{◌≡◌, sym, ◌∙◌}
use Rattle.book_check.specs.Promise.{IsGoodPromise}

pub is_good_no_choice : (w : List ℕ) (r q : Bool) → IsGoodPromise w r → IsGoodPromise w q → r ≡ q
is_good_no_choice w r q a b = a.says ∙ sym b.says
