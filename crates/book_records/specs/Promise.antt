-- What the calls on a client, a wish and a record's words promise.
use Rattle.std.specs.Prelude.{ℕ, ◌+◌, ◌*◌, Bool, Option, ◌≡◌}
use Rattle.book_rules.specs.Form.{form, bad_client, bad_wish}
use Rattle.book_records.specs.Ranks.{rank_or_none}
use Rattle.book_records.specs.Marks.{mark_or_none}

pub record BadClientPromise (client : ℕ) (r : Bool) : Type 0 where
  pub says : r ≡ bad_client client

pub record BadWishPromise (wish : ℕ) (r : Bool) : Type 0 where
  pub says : r ≡ bad_wish wish

pub record ClientOfPromise (mark r : ℕ) : Type 0 where
  pub says : r ≡ form.who mark

pub record WishOfPromise (mark r : ℕ) : Type 0 where
  pub says : r ≡ form.wish mark

pub record MarkOrNonePromise (client wish : ℕ) (r : Option ℕ) : Type 0 where
  pub says : r ≡ mark_or_none client wish

-- a client of a book is below 10,000
pub record RankOfPromise (first client r : ℕ) : Type 0 where
  pub says : r ≡ first * 10000 + client

pub record RankOrNonePromise (first second : ℕ) (r : Option ℕ) : Type 0 where
  pub says : r ≡ rank_or_none (record { first = first; second = second })
