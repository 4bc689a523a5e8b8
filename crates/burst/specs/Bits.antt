-- Paper 01, "From bursts to one text": each bit is what at least two have. Paper 02 §8: in how many bits two bytes differ.
use Rattle.std.specs.Prelude.{ℕ, zero, suc, ◌+◌, ◌*◌, ◌/◌, ◌%◌, ◌^◌, not, eqb}
use Rattle.laws.specs.Lists.{table, tally}

-- bit k of x, counted from the lowest, 0
abbrev pub bit : ℕ → ℕ → ℕ
bit x k = x / 2 ^ k % 2

-- of three bits, what at least two have
abbrev pub most : ℕ → ℕ → ℕ → ℕ
most x y z = (x + y + z) / 2

-- the number whose bits are f 0 to f (n - 1)
abbrev pub of_bits : ℕ → (ℕ → ℕ) → ℕ
of_bits zero f = 0
of_bits (suc n) f = of_bits n f + f n * 2 ^ n

-- the byte each of whose eight bits is what at least two of x, y and z have
unfoldable pub voted_byte : ℕ → ℕ → ℕ → ℕ
voted_byte x y z = of_bits 8 (λ k. most (bit x k) (bit y k) (bit z k))

-- in how many of their eight bits two bytes differ
unfoldable pub bits_apart : ℕ → ℕ → ℕ
bits_apart x y = tally (λ k. not (eqb (bit x k) (bit y k))) (table 8 (λ k. k))
