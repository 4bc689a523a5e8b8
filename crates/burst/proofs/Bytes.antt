-- A byte is the number of its eight bits, so a byte whose every bit two have right is voted right.
use mathlib.Core.Path.{◌≡◌, refl, sym, ap₂, ◌∙◌}
use mathlib.Core.Logic.{⊎_elim}
use Prim.Native.Nat.{ℕ, zero, suc, ◌+◌, ◌*◌, ◌%◌, ◌^◌, ◌<◌}
use native.Mathlib.Numerals.{one-add}
use native.Mathlib.Nat.{mod-eq_of_lt}
use native.Mathlib.Omega.{arith}
use lib.Pow.{mod-pow-add}
use Rattle.burst.specs.Bits.{bit, most, of_bits, voted_byte}
use Rattle.burst.specs.Sent.{Two}

pub same_bits : (n : ℕ) (f g : ℕ → ℕ) → ((k : ℕ) → k < n → f k ≡ g k) → of_bits n f ≡ of_bits n g
same_bits zero f g h = refl
same_bits (suc n) f g h = ap₂ (λ (x y : ℕ). x + y * 2 ^ n) (same_bits n f g (λ k l. h k (omega arith))) (h n (omega arith))

low_bits : (n x : ℕ) → of_bits n (bit x) ≡ x % 2 ^ n
low_bits zero x = omega arith
low_bits (suc n) x = rw (low_bits n x, ← one-add n, mod-pow-add x 1 n) (omega arith)

pub all_bits : (x : ℕ) → x < 256 → of_bits 8 (bit x) ≡ x
all_bits x h = low_bits 8 x ∙ mod-eq_of_lt h

-- two bytes with the same bits
pub same_byte : (x y : ℕ) → x < 256 → y < 256 → ((k : ℕ) → k < 8 → bit x k ≡ bit y k) → x ≡ y
same_byte x y p q h = sym (all_bits x p) ∙ same_bits 8 (bit x) (bit y) h ∙ all_bits y q

-- what two have is what most have
two_most : (x y z t : ℕ) → t < 2 → Two (x ≡ t) (y ≡ t) (z ≡ t) → x < 2 → y < 2 → z < 2 → most x y z ≡ t
two_most x y z t h w p q r = ⊎_elim (λ e. omega arith) (⊎_elim (λ e. omega arith) (λ e. omega arith)) w

bit_lt : (x k : ℕ) → bit x k < 2
bit_lt x k = omega arith

-- the byte whose every bit two have right
pub voted_right : (x y z t : ℕ) → t < 256 → ((k : ℕ) → k < 8 → Two (bit x k ≡ bit t k) (bit y k ≡ bit t k) (bit z k ≡ bit t k)) → voted_byte x y z ≡ t
unfolding voted_byte
voted_right x y z t h w =
    same_bits 8 (λ k. most (bit x k) (bit y k) (bit z k)) (bit t)
    (λ k l. two_most (bit x k) (bit y k) (bit z k) (bit t k) (bit_lt t k) (w k l) (bit_lt x k) (bit_lt y k) (bit_lt z k))
    ∙ all_bits t h
