-- A bit of a whole-byte `and` or `or` is the lesser or the greater of the two bits: so one expression votes all bits at once.
use mathlib.Core.Path.{◌≡◌, sym, ap₂, ◌∙◌}
use Prim.Native.Nat.{ℕ, ◌<◌, ◌/◌, ◌^◌, min, max}
use native.Mathlib.Omega.{arith}
use lib.Bits.{bit_and, bit_or, and_shr, or_shr, and_step, or_step, and_lt, or_lt}
use Rattle.burst.specs.Bits.{bit, most, voted_byte}
use Rattle.burst.proofs.Bytes.{same_bits, all_bits}

-- what two of x, y and z have
abbrev pub whole : ℕ → ℕ → ℕ → ℕ
whole x y z = bit_or (bit_or (bit_and x y) (bit_and x z)) (bit_and y z)

bit_of_and : (x y k : ℕ) → bit (bit_and x y) k ≡ min (bit x k) (bit y k)
bit_of_and x y k = rw (and_shr x y k, and_step (x / 2 ^ k) (y / 2 ^ k)) (omega arith)

bit_of_or : (x y k : ℕ) → bit (bit_or x y) k ≡ max (bit x k) (bit y k)
bit_of_or x y k = rw (or_shr x y k, or_step (x / 2 ^ k) (y / 2 ^ k)) (omega arith)

-- any bit of it, however high
pub whole_bit : (x y z k : ℕ) → bit (whole x y z) k ≡ most (bit x k) (bit y k) (bit z k)
whole_bit x y z k =
    bit_of_or (bit_or (bit_and x y) (bit_and x z)) (bit_and y z) k
    ∙ ap₂ max (bit_of_or (bit_and x y) (bit_and x z) k ∙ ap₂ max (bit_of_and x y k) (bit_of_and x z k)) (bit_of_and y z k)
    ∙ omega arith

whole_lt : (x y z : ℕ) → x < 256 → y < 256 → z < 256 → whole x y z < 256
whole_lt x y z p q r =
    let v = or_lt 8 (bit_and x y) (bit_and x z) (and_lt 8 x y p q) (and_lt 8 x z p r) in
    or_lt 8 (bit_or (bit_and x y) (bit_and x z)) (bit_and y z) v (and_lt 8 y z q r)

pub whole_byte : (x y z : ℕ) → x < 256 → y < 256 → z < 256 → whole x y z ≡ voted_byte x y z
unfolding voted_byte
whole_byte x y z p q r =
    sym (all_bits (whole x y z) (whole_lt x y z p q r))
    ∙ same_bits 8 (bit (whole x y z)) (λ k. most (bit x k) (bit y k) (bit z k)) (λ k l. whole_bit x y z k)
