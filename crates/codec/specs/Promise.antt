-- What the calls on bytes and digits promise. Paper 01, "Numbers and what they leave".
use Rattle.std.specs.Prelude.{ℕ, ◌+◌, ◌≡◌, List, [], ◌∷◌, Bool, true, false, ◌&&◌, length, take, drop, leb, ltb, Option, Some, None}
use Rattle.laws.specs.Order.{Said, granted, refused, ◌when◌, in_order, choose}
use Rattle.laws.specs.Lists.{every, same}
use Rattle.laws.specs.Numbers.{within, digit, decimal}
use Rattle.laws.specs.Space.{pasted, leaves}

pub record BetweenPromise (lo hi b : ℕ) (r : Bool) : Type 0 where
  pub says : r ≡ within lo hi b

pub record SamePromise (a b : List ℕ) (r : Bool) : Type 0 where
  pub says : r ≡ same a b

-- the number that the `width` digits at index `at` make: at most nine digits, all of them in the text
unfoldable pub number_at : List ℕ → ℕ → ℕ → Option ℕ
number_at text at width =
    choose (leb width 9 && (leb (at + width) (length text) && every digit (take width (drop at text))))
    (Some (decimal (take width (drop at text))))
    None

pub record DigitsAtPromise (text : List ℕ) (at width : ℕ) (r : Option ℕ) : Type 0 where
  pub says : r ≡ number_at text at width

-- 13: the lent space ends before the bytes do
unfoldable pub put_says : List ℕ → ℕ → ℕ → Said (Unit {0})
put_says s at room =
    in_order
    (
    refused 13 when ltb room (at + length s)
    ∷ []
    )
    (granted tt)

-- what the answer says: written, or 13
abbrev pub said_put : Bool → Said (Unit {0})
said_put true = granted tt
said_put false = refused 13

-- writing s at index `at` of lent space that holds d, and then d'
pub record PutPromise (d : List ℕ) (at : ℕ) (s : List ℕ) (r : Bool) (d' : List ℕ) : Type 0 where
  pub says : said_put r ≡ put_says s at (length d)
  pub space : d' ≡ leaves (λ u out. pasted out at s) (put_says s at (length d)) d
