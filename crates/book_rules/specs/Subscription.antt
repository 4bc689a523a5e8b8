-- Paper 01, "The book": a subscription is a place, a client and a wish, as asked for.
use Rattle.std.specs.Prelude.{ℕ, Bool, false, ◌&&◌, List, ◌≡◌, eqb}
use Rattle.laws.specs.Lists.{tally}
use Rattle.place.specs.FirstWord.{bad_place}
use Rattle.book_rules.specs.Form.{bad_client, bad_wish}

pub record Sub : Type 0 where
  pub place : ℕ
  pub client : ℕ
  pub wish : ℕ

abbrev pub sub : ℕ → ℕ → ℕ → Sub
sub place client wish = record { place = place; client = client; wish = wish }

-- SS is 1 to 99, client 1 to 9,999, wish 1 to 63
pub record InRange (x : Sub) : Type 0 where
  pub place : bad_place x.place ≡ false
  pub client : bad_client x.client ≡ false
  pub wish : bad_wish x.wish ≡ false

-- it is for this place and this client, whatever its wish
abbrev pub is_pair : ℕ → ℕ → Sub → Bool
is_pair place client x = eqb x.place place && eqb x.client client

-- how often a subscription stands in a list
abbrev pub same_sub : Sub → Sub → Bool
same_sub x y = eqb x.place y.place && (eqb x.client y.client && eqb x.wish y.wish)

unfoldable pub how_often : Sub → List Sub → ℕ
how_often x list = tally (same_sub x) list
