-- What the private steps of the vote do, over stripped bursts.
use Rattle.std.specs.Prelude.{ℕ, ◌-◌, Bool, false, not, List, ◌++◌, ◌≡◌, length, take, drop, get_or, eqb, ltb, Result}
use Rattle.laws.specs.Order.{Said, granted, refused_at, choose, in_order}
use Rattle.laws.specs.Lists.{table, lowest}
use Rattle.laws.specs.Space.{pasted, leaves}
use Rattle.refusals.specs.Refusals.{said}
use Rattle.refusals.specs.declared.Refusal.{Refusal}
use Rattle.burst.specs.Bits.{voted_byte}
use Rattle.burst.specs.Vote.{voted_length, clash_at, voted_text, vote_rows}

-- the lowest position from `from` on, below n, at which p and q differ, or n
abbrev pub differs : List ℕ → List ℕ → ℕ → Bool
differs p q i = not (eqb (get_or p i 0) (get_or q i 0))

abbrev pub first_difference : List ℕ → List ℕ → ℕ → ℕ → ℕ
first_difference p q from n = lowest (differs p q) from (n - from)

-- the first n bytes, voted
abbrev pub voted_bytes : List ℕ → List ℕ → List ℕ → ℕ → List ℕ
voted_bytes a b c n = table n (λ i. voted_byte (get_or a i 0) (get_or b i 0) (get_or c i 0))

-- the entries of p from index from up to n
abbrev pub stretch : List ℕ → ℕ → ℕ → List ℕ
stretch p from n = take (n - from) (drop from p)

-- s is the shortest of three bursts: voted as far as it reaches, and then what p has
abbrev pub blended : List ℕ → List ℕ → List ℕ → ℕ → List ℕ
blended s p q n = voted_bytes s p q (length s) ++ stretch p (length s) n

-- what is said, once only 3 is left to ask
abbrev pub agreed : List ℕ → List ℕ → List ℕ → ℕ → Said ℕ
agreed s p q n =
    let k = first_difference p q (length s) n in
    choose (ltb k n) (refused_at 3 k) (granted n)

pub record Agrees (s p q : List ℕ) (n : ℕ) (out : List ℕ) (r : Result ℕ Refusal) (left : List ℕ) : Type 0 where
  pub says : said r ≡ agreed s p q n
  pub space : left ≡ leaves (λ m d. pasted d 0 (blended s p q m)) (said r) out

-- what is said of three stripped bursts, none of whose received ones is too long, and what is left in the space lent
abbrev pub decided : List ℕ → List ℕ → List ℕ → ℕ → Said ℕ
decided a b c room =
    let n = voted_length a b c in
    in_order (vote_rows false n (clash_at a b c n) room) (granted n)

pub record Decides (a b c out : List ℕ) (r : Result ℕ Refusal) (left : List ℕ) : Type 0 where
  pub says : said r ≡ decided a b c (length out)
  pub space : left ≡ leaves (λ m d. pasted d 0 (voted_text a b c m)) (said r) out
