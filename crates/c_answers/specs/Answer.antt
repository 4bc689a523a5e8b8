-- The answer of a call from outside, as one number of 64 bits: the paper's number in the low half, 0 where the call is granted, and
-- the size (a length or a count) or index in the high half, 0 where none is named.
use Rattle.std.specs.Prelude.{ℕ, ◌+◌, ◌*◌, ◌/◌, ◌%◌, min}
use Rattle.laws.specs.Order.{Said, granted, refused, refused_at, next}

-- 2^32: a half holds the numbers below it
abbrev pub half : ℕ
half = 4294967296

-- what a half can say of a value: one that is too large is said as the highest
abbrev pub capped : ℕ → ℕ
capped v = min v 4294967295

unfoldable pub in_halves : Said ℕ → ℕ
in_halves (granted v) = capped v * half
in_halves (refused n) = n
in_halves (refused_at n i) = n + capped i * half

-- of a call that names no value where it is granted
abbrev pub bare : {A : Type 0} → Said A → Said ℕ
bare s = next s (λ a. granted 0)

-- ---- what a caller reads off an answer, and what was said

-- the low half, and the high half
abbrev pub number_in : ℕ → ℕ
number_in r = r % half

abbrev pub size_or_index_in : ℕ → ℕ
size_or_index_in r = r / half

abbrev pub size_or_index_of : Said ℕ → ℕ
size_or_index_of (granted v) = v
size_or_index_of (refused n) = 0
size_or_index_of (refused_at n i) = i
