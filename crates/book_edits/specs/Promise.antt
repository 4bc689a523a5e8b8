-- What the calls on a book promise: what is said, and what the lent book holds afterwards.
use Rattle.std.specs.Prelude.{ℕ, List, Result, ◌≡◌}
use Rattle.laws.specs.Order.{granted, next}
use Rattle.laws.specs.Space.{leaves}
use Rattle.book_rules.specs.Form.{form}
use Rattle.book_rules.specs.Edits.{add_says, added, remove_says, removed}
use Rattle.book_rules.specs.Load.{load_says}
use Rattle.refusals.specs.Refusals.{said}
use Rattle.refusals.specs.declared.Refusal.{Refusal}

-- ---- the book w, and what is left of it

pub record AddPromise (w : List ℕ) (place client wish : ℕ) (r : Result (Unit {0}) Refusal) (left : List ℕ) : Type 0 where
  pub says : said r ≡ add_says form w place client wish
  pub lent : left ≡ leaves (λ u. added form place client wish) (add_says form w place client wish) w

pub record RemovePromise (w : List ℕ) (place client : ℕ) (r : Result (Unit {0}) Refusal) (left : List ℕ) : Type 0 where
  pub says : said r ≡ remove_says form w place client
  pub lent : left ≡ leaves (λ u. removed form place client) (remove_says form w place client) w

-- the book of a list in place of w, or w
pub record LoadPromise (w list : List ℕ) (r : Result (Unit {0}) Refusal) (left : List ℕ) : Type 0 where
  pub says : said r ≡ next (load_says form w list) (λ b. granted tt)
  pub lent : left ≡ leaves (λ b d. b) (load_says form w list) w
