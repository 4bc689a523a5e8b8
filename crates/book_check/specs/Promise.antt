-- What the check of a book promises.
use Rattle.std.specs.Prelude.{ℕ, Bool, List, ◌≡◌}
use Rattle.book_rules.specs.Form.{form}
use Rattle.book_rules.specs.Rules.{good}

pub record IsGoodPromise (w : List ℕ) (r : Bool) : Type 0 where
  pub says : r ≡ good form w
