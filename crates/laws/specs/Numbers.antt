-- Ranges of numbers, and decimal digits.
use Rattle.std.specs.Prelude.{ℕ, zero, suc, ◌+◌, ◌-◌, ◌*◌, ◌/◌, ◌%◌, Bool, ◌&&◌, List, [], ◌∷◌, ◌++◌, leb, ltb}
use Rattle.laws.specs.Order.{choose}

-- a ≤ x ≤ e
abbrev pub within : ℕ → ℕ → ℕ → Bool
within a e x = leb a x && leb x e

-- the bytes `0` to `9`
abbrev pub digit : ℕ → Bool
digit = within 48 57

-- the number that digits say, after the number a
abbrev pub dec_from : ℕ → List ℕ → ℕ
dec_from a [] = a
dec_from a (x ∷ xs) = dec_from (a * 10 + (x - 48)) xs

abbrev pub decimal : List ℕ → ℕ
decimal = dec_from 0

-- the last w digits of n
abbrev pub dig : ℕ → ℕ → List ℕ
dig zero n = []
dig (suc w) n = dig w (n / 10) ++ ((48 + n % 10) ∷ [])

-- how many digits n has (looked for among the first k + 1), and n in plain decimal
unfoldable pub size_by : ℕ → ℕ → ℕ
size_by zero n = 1
size_by (suc k) n = choose (ltb n 10) 1 (1 + size_by k (n / 10))

unfoldable pub size : ℕ → ℕ
size n = size_by n n

abbrev pub plain : ℕ → List ℕ
plain n = dig (size n) n
