-- The lowest number from i on that passes is i itself, or the lowest from i + 1 on: so a loop that looks for it goes.
use mathlib.Core.Path.{◌≡◌, refl, sym, ◌∙◌}
use mathlib.Core.Bool.{Bool, true, false}
use Prim.Native.Nat.{ℕ, zero, suc, ◌+◌, ◌-◌, ◌≤◌, ◌<◌}
use native.Mathlib.Nat.{add-zero}
use native.Mathlib.Omega.{arith}
use Rattle.laws.specs.Lists.{lowest}
use Rattle.laws.specs.Order.{choose}

pub lowest_none : (p : ℕ → Bool) (n i : ℕ) → ((j : ℕ) → j < i + n → p j ≡ false) → lowest p i n ≡ i + n
unfolding lowest
lowest_none p zero i h = sym (add-zero i)
lowest_none p (suc n) i h = rw (h i (omega arith)) (lowest_none p n (i + 1) (λ j l. h j (omega arith)) ∙ omega arith)

-- a number that passes, and one that does not
pub lowest_here : (p : ℕ → Bool) (i n : ℕ) → 0 < n → p i ≡ true → lowest p i n ≡ i
unfolding lowest
lowest_here p i zero l h = absurd (omega arith)
lowest_here p i (suc n) l h = rw h

pub lowest_next : (p : ℕ → Bool) (i n : ℕ) → 0 < n → p i ≡ false → lowest p i n ≡ lowest p (i + 1) (n - 1)
unfolding lowest
lowest_next p i zero l h = absurd (omega arith)
lowest_next p i (suc n) l h = let e : suc n - 1 ≡ n = omega arith in rw (h, e)

pub lowest_end : (p : ℕ → Bool) (i : ℕ) → lowest p i 0 ≡ i
unfolding lowest
lowest_end p i = refl

pub lowest_le : (p : ℕ → Bool) (i n : ℕ) → lowest p i n ≤ i + n
unfolding lowest
lowest_le p i zero = omega arith
lowest_le p i (suc n) = by (p i) (lowest_le p (i + 1) n)
  where
    by : (b : Bool) → lowest p (i + 1) n ≤ i + 1 + n → choose b i (lowest p (i + 1) n) ≤ i + suc n
    by true k = omega arith
    by false k = omega arith
