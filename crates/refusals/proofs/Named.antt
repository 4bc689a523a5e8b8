-- The refusals of 13 to 23, by number: each says its own.
use Rattle.std.specs.Prelude.{ℕ, zero, suc, ◌≡◌, ◌≤◌, ◌+◌, ◌-◌, Bool, true, List, [], ◌∷◌, get_or}
use mathlib.Core.Path.{refl, subst}
use native.Mathlib.Omega.{arith}
use Rattle.laws.proofs.Tests.{within_lo, within_hi}
use Rattle.laws.specs.Order.{Said, refused}
use Rattle.laws.specs.Numbers.{within}
use Rattle.refusals.specs.Refusals.{says}
use Rattle.refusals.specs.declared.Refusal.{Refusal}
use Rattle.refusals.specs.declared.Refusal.TheVariants.{NoRoom, NoSuchDay, BadClock, BadBook, BadClient, BadPlace, BadWish, StandsAlready, StandsNot, FullBook, Malformed}

-- of the number 13 + k
abbrev named_from_13 : ℕ → Refusal
named_from_13 k = get_or (NoRoom ∷ NoSuchDay ∷ BadClock ∷ BadBook ∷ BadClient ∷ BadPlace ∷ BadWish ∷ StandsAlready ∷ StandsNot ∷ FullBook ∷ Malformed ∷ []) k NoRoom

abbrev pub with_number : ℕ → Refusal
with_number n = named_from_13 (n - 13)

says_from_13 : (A : Type 0) (k : ℕ) → k ≤ 10 → says {A = A} (named_from_13 k) ≡ refused (13 + k)
says_from_13 A zero h = refl
says_from_13 A (suc zero) h = refl
says_from_13 A (suc (suc zero)) h = refl
says_from_13 A (suc (suc (suc zero))) h = refl
says_from_13 A (suc (suc (suc (suc zero)))) h = refl
says_from_13 A (suc (suc (suc (suc (suc zero))))) h = refl
says_from_13 A (suc (suc (suc (suc (suc (suc zero)))))) h = refl
says_from_13 A (suc (suc (suc (suc (suc (suc (suc zero))))))) h = refl
says_from_13 A (suc (suc (suc (suc (suc (suc (suc (suc zero)))))))) h = refl
says_from_13 A (suc (suc (suc (suc (suc (suc (suc (suc (suc zero))))))))) h = refl
says_from_13 A (suc (suc (suc (suc (suc (suc (suc (suc (suc (suc zero)))))))))) h = refl
says_from_13 A (suc (suc (suc (suc (suc (suc (suc (suc (suc (suc (suc k))))))))))) h = absurd (omega arith)

pub number_says : {A : Type 0} (n : ℕ) → within 13 23 n ≡ true → says {A = A} (with_number n) ≡ refused n
number_says {A} n h =
    let a = within_lo 13 23 n h in
    let b = within_hi 13 23 n h in
    let e : 13 + (n - 13) ≡ n = omega arith in
    subst (λ (m : ℕ). says {A = A} (with_number n) ≡ refused m) e (says_from_13 A (n - 13) (omega arith))
