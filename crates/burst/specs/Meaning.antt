-- Paper 02 §8 in other words: which bytes count as preamble, how many the stripping drops, and the rule of paper 01 that it amends.
use Rattle.std.specs.Prelude.{ℕ, suc, ◌+◌, ◌-◌, ◌^◌, ◌≤◌, ◌<◌, ◌≡◌, true, false, List, [], ◌∷◌, length, get_or, eqb}
use Rattle.laws.specs.Order.{choose}
use Rattle.laws.specs.Lists.{table}
use Rattle.burst.specs.Bits.{bit}
use Rattle.burst.specs.Strip.{preamble}

-- a byte with its bit k turned
abbrev pub bit_turned : ℕ → ℕ → ℕ
bit_turned x k = choose (eqb (bit x k) 0) (x + 2 ^ k) (x - 2 ^ k)

-- AB, and AB with one of its eight bits turned
abbrev pub near_ab : List ℕ
near_ab = 0xAB ∷ table 8 (bit_turned 0xAB)

-- n bytes are counted, up to m: each of them counts as preamble; and where they are fewer than m, the burst ends there, or the next
-- byte does not count
pub record CountsTo (m : ℕ) (burst : List ℕ) (n : ℕ) : Type 0 where
  pub within : n ≤ length burst
  pub most : n ≤ m
  pub each : (i : ℕ) → i < n → preamble (get_or burst i 0) ≡ true
  pub ends : n < m → n < length burst → preamble (get_or burst n 0) ≡ false

-- the stripping drops n bytes
abbrev pub Drops : List ℕ → ℕ → Type 0
Drops burst n = CountsTo 16 burst n

-- paper 01 dropped the whole run of AB bytes, however long, and nothing else
unfoldable pub whole_run : List ℕ → ℕ
whole_run [] = 0
whole_run (x ∷ xs) = choose (eqb x 0xAB) (suc (whole_run xs)) 0
