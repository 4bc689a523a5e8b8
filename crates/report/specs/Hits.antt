-- Paper 01, "Place matching": which subscriptions match a header; and the words that a report writes of them.
use Rattle.std.specs.Prelude.{ℕ, ◌-◌, ◌/◌, ◌%◌, ◌^◌, Bool, ◌&&◌, List, [], ◌∷◌, eqb}
use Rattle.laws.specs.Lists.{keep}
use Rattle.laws.specs.Numbers.{within}
use Rattle.place.specs.Place.{matches_some}
use Rattle.event.specs.Class.{class_of}
use Rattle.header.specs.Header.{Alert}
use Rattle.book_rules.specs.Subscription.{Sub}

-- a wish is the sum of 2^(class − 1) over the classes 1 to 6 wanted; class 0 matches nobody
unfoldable pub has_class : ℕ → ℕ → Bool
has_class wish class = within 1 6 class && eqb (wish / 2 ^ (class - 1) % 2) 1

-- it matches at least one of the places, and its wish has the class
unfoldable pub matching : ℕ → List ℕ → Sub → Bool
matching class places x = matches_some x.place places && has_class x.wish class

-- it is this client's
abbrev pub is_of : ℕ → Sub → Bool
is_of client x = eqb x.client client

-- it is this client's and matches
unfoldable pub is_hit : ℕ → ℕ → List ℕ → Sub → Bool
is_hit client class places x = is_of client x && matching class places x

-- of some subscriptions, this client's that match a header, in their order
unfoldable pub hits_of : ℕ → Alert → List Sub → List Sub
hits_of client a list = keep (is_hit client (class_of a.event) a.places) list

-- pairs of words: place code as PSSCCC, wish
unfoldable pub pairs : List Sub → List ℕ
pairs [] = []
pairs (x ∷ list) = x.place ∷ x.wish ∷ pairs list
