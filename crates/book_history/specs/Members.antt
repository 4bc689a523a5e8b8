-- Lists of subscriptions: what stands in one, and the order of a book. Paper 01, "The book": strictly rising order of
-- (first word, client).
use Rattle.std.specs.Prelude.{ℕ, ◌<◌, ◌≡◌, Bool, List, [], ◌∷◌}
use Rattle.laws.specs.Lists.{some}
use Rattle.place.specs.FirstWord.{first_word}
use Rattle.book_rules.specs.Subscription.{Sub, same_sub, InRange}
use Rattle.book_rules.specs.Steps.{rank_of}

-- a subscription stands in a list
unfoldable pub is_in : Sub → List Sub → Bool
is_in x list = some (same_sub x) list

-- by first word, then by client
pub data Before (x y : Sub) : Type 0 where
  by_word : first_word x.place < first_word y.place → Before x y
  by_client : first_word x.place ≡ first_word y.place → x.client < y.client → Before x y

-- (first word, client) as one number
abbrev pub rank_sub : Sub → ℕ
rank_sub x = rank_of x.place x.client

-- each in range, and of a rank above the one before, the first above k
abbrev pub Rise : ℕ → List Sub → Type 0
Rise k [] = Unit
Rise k (x ∷ list) = InRange x × (k < rank_sub x) × Rise (rank_sub x) list
