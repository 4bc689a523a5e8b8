-- Paper 01, "From bursts to one text", as paper 02 §8 amends it: stripping a received burst.
use Rattle.std.specs.Prelude.{ℕ, zero, suc, Bool, List, [], ◌∷◌, drop, leb}
use Rattle.laws.specs.Order.{choose}
use Rattle.burst.specs.Bits.{bits_apart}

-- a byte counts as preamble if it differs from hexadecimal AB in at most one bit
unfoldable pub preamble : ℕ → Bool
preamble x = leb (bits_apart x 0xAB) 1

-- how many preamble bytes lead, counted up to n
unfoldable pub lead_up_to : ℕ → List ℕ → ℕ
lead_up_to zero burst = 0
lead_up_to (suc n) [] = 0
lead_up_to (suc n) (x ∷ xs) = choose (preamble x) (suc (lead_up_to n xs)) 0

-- how many bytes the stripping drops: the leading preamble bytes, up to 16
unfoldable pub lead : List ℕ → ℕ
lead burst = lead_up_to 16 burst

-- the part of the received burst that follows them
unfoldable pub stripped : List ℕ → List ℕ
stripped burst = drop (lead burst) burst
