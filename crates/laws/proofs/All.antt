-- A loop over the numbers below n keeps that all below i pass: the first that fails settles the test, and so does the end.
use mathlib.Core.Path.{◌≡◌, refl, sym, subst}
use mathlib.Core.Logic.{⊎_elim}
use mathlib.Core.Bool.{Bool, true, false, and-false}
use Prim.Native.Nat.{ℕ, zero, suc, ◌+◌, ◌≤◌, ◌<◌}
use native.Mathlib.Nat.{not-suc-le-zero, le_of_suc-le-suc, eq-or-lt_of_le}
use native.Mathlib.Numerals.{add-one}
use native.Mathlib.Omega.{arith}
use Rattle.laws.specs.Lists.{all}
use Rattle.laws.proofs.Tests.{and_l, and_r, and_i}

pub all_none : (f : ℕ → Bool) → all 0 f ≡ true
unfolding all
all_none f = refl

pub all_more : (n : ℕ) (f : ℕ → Bool) → all n f ≡ true → f n ≡ true → all (n + 1) f ≡ true
unfolding all
all_more n f a b = rw (add-one, a) b

pub all_fails : (n i : ℕ) (f : ℕ → Bool) → i < n → f i ≡ false → all n f ≡ false
unfolding all
all_fails zero i f l e = absurd (not-suc-le-zero l)
all_fails (suc n) i f l e =
    ⊎_elim (λ (q : i ≡ n). let z : f n ≡ false = subst (λ (k : ℕ). f k ≡ false) q e in rw z (and-false (all n f)))
    (λ (q : i < n). rw (all_fails n i f q e)) (eq-or-lt_of_le (le_of_suc-le-suc l))

pub all_at : (n i : ℕ) (f : ℕ → Bool) → all n f ≡ true → i < n → f i ≡ true
unfolding all
all_at zero i f a l = absurd (not-suc-le-zero l)
all_at (suc n) i f a l =
    ⊎_elim (λ (q : i ≡ n). subst (λ (k : ℕ). f k ≡ true) (sym q) (and_r (all n f) (f n) a))
    (λ (q : i < n). all_at n i f (and_l (all n f) (f n) a) q) (eq-or-lt_of_le (le_of_suc-le-suc l))

pub all_true : (n : ℕ) (f : ℕ → Bool) → ((i : ℕ) → i < n → f i ≡ true) → all n f ≡ true
unfolding all
all_true zero f h = refl
all_true (suc n) f h = and_i (all n f) (f n) (all_true n f (λ i l. h i (omega arith))) (h n (omega arith))

-- what the loop says as it is left, at an entry that fails and at the end
pub all_stop : (n i : ℕ) (f : ℕ → Bool) → i < n → f i ≡ false → false ≡ all n f
all_stop n i f l e = sym (all_fails n i f l e)

pub all_end : (n i : ℕ) (f : ℕ → Bool) → i ≤ n → n ≤ i → all i f ≡ true → true ≡ all n f
all_end n i f a b e = let q : i ≡ n = omega arith in rw (← q) (sym e)
