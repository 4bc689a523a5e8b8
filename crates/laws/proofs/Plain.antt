-- A division by ten takes one digit away: so a number of up to 9999 has at most four.
use Prim.Native.Nat.{ℕ, zero, suc, ◌+◌, ◌/◌, ◌≤◌, ◌<◌}
use mathlib.Core.Path.{◌≡◌, refl}
use mathlib.Core.Logic.{◌⊎◌, inl, inr}
use mathlib.Core.Bool.{Bool, true, false}
use native.Mathlib.Omega.{arith}
use lib.Dec.{ltb}
use borrow.Author.Tests.{lt-ltb, le-ltb, ltb-false}
use Rattle.laws.specs.Order.{choose}
use Rattle.laws.specs.Numbers.{size, size_by}
use Rattle.laws.proofs.Tests.{le_or_lt}

size_fuel : (k j n : ℕ) → n ≤ k → n ≤ j → size_by k n ≡ size_by j n
unfolding size_by
size_fuel zero zero n a b = refl
size_fuel zero (suc j) n a b = simp (lt-ltb n 10 (omega arith))
size_fuel (suc k) zero n a b = simp (lt-ltb n 10 (omega arith))
size_fuel (suc k) (suc j) n a b = go (ltb n 10) refl (λ h. size_fuel k j (n / 10) (omega arith) (omega arith))
  where
    go : (t : Bool) → ltb n 10 ≡ t → (9 < n → size_by k (n / 10) ≡ size_by j (n / 10))
        → choose (ltb n 10) 1 (1 + size_by k (n / 10)) ≡ choose (ltb n 10) 1 (1 + size_by j (n / 10))
    go true e f = simp e
    go false e f = simp (e, f (omega (arith, ltb-false n 10 e)))

pub size_one : (n : ℕ) → n ≤ 9 → size n ≡ 1
unfolding size size_by
size_one zero h = refl
size_one (suc n) h = simp (lt-ltb (suc n) 10 (omega arith))

pub size_more : (n : ℕ) → 9 < n → size n ≡ 1 + size (n / 10)
unfolding size size_by
size_more zero h = absurd (omega arith)
size_more (suc n) h = simp (le-ltb (suc n) 10 (omega arith), size_fuel n (suc n / 10) (suc n / 10) (omega arith) (omega arith))

size_by_le : (k n : ℕ) → size_by k n ≤ suc k
unfolding size_by
size_by_le zero n = omega arith
size_by_le (suc k) n = go (ltb n 10) (size_by_le k (n / 10))
  where
    go : (t : Bool) → size_by k (n / 10) ≤ suc k → choose t 1 (1 + size_by k (n / 10)) ≤ suc (suc k)
    go true h = omega arith
    go false h = omega arith

pub size_le : (n : ℕ) → size n ≤ n + 1
unfolding size
size_le n = omega (arith, size_by_le n n)

-- a number of at most four digits
pub size_small : (n : ℕ) → n ≤ 9999 → size n ≤ 4
size_small n h = by (le_or_lt 9 n) (le_or_lt 9 (n / 10)) (le_or_lt 9 (n / 10 / 10))
  where
    by : (9 < n) ⊎ (n ≤ 9) → (9 < n / 10) ⊎ (n / 10 ≤ 9) → (9 < n / 10 / 10) ⊎ (n / 10 / 10 ≤ 9) → size n ≤ 4
    by (inr a) b c = omega (arith, size_one n a)
    by (inl a) (inr b) c = omega (arith, size_more n a, size_one (n / 10) b)
    by (inl a) (inl b) (inr c) = omega (arith, size_more n a, size_more (n / 10) b, size_one (n / 10 / 10) c)
    by (inl a) (inl b) (inl c) = omega (arith, size_more n a, size_more (n / 10) b, size_more (n / 10 / 10) c, size_one (n / 10 / 10 / 10) (omega arith))
