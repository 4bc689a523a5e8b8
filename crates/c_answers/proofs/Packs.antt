-- A number below 2 to the 32 and what is beside it stand in halves that do not mix, so both are read off again.
use Prim.Native.Nat.{ℕ, ◌+◌, ◌*◌, ◌<◌}
use mathlib.Core.Path.{◌≡◌, refl, sym, ap, ◌∙◌}
use mathlib.Core.Bool.{Bool, true, false, not}
use native.Mathlib.Omega.{arith}
use Rattle.laws.specs.Order.{Said, granted, refused, refused_at, next, choose, is_refusal}
use Rattle.laws.proofs.Next.{next_next}
use Rattle.refusals.specs.Refusals.{number_of}
use Rattle.c_answers.specs.Answer.{half, capped, in_halves, bare, number_in, size_or_index_in, size_or_index_of}

-- ---- made of a number and what is beside it

pub packs_granted : (r v : ℕ) → r ≡ 0 + capped v * half → r ≡ in_halves (granted v)
unfolding in_halves
packs_granted r v e = e ∙ omega arith

pub packs_refused : (r n : ℕ) → r ≡ n + capped 0 * half → r ≡ in_halves (refused n)
unfolding in_halves
packs_refused r n e = e ∙ omega arith

pub packs_refused_at : (r n i : ℕ) → r ≡ n + capped i * half → r ≡ in_halves (refused_at n i)
unfolding in_halves
packs_refused_at r n i e = e

pub nothing_granted : 0 ≡ in_halves (granted 0)
unfolding in_halves
nothing_granted = refl

pub bare_again : {A : Type 0} (s : Said A) → bare (next {B = Unit {0}} s (λ a. granted tt)) ≡ bare s
bare_again s = next_next s (λ a. granted tt) (λ a. granted 0)

pub sound_number : (b : Bool) → b ≡ true → 0 ≡ in_halves (choose (not b) (refused 16) (granted 0))
unfolding in_halves
sound_number b e = rw e

pub unsound_number : (b : Bool) → b ≡ false → 16 ≡ in_halves (choose (not b) (refused 16) (granted 0))
unfolding in_halves
unsound_number b e = rw e

-- ---- and read off again: the two halves say the number and what is beside it

halves_of : (n x : ℕ) → n < half → (number_in (n + x * half) ≡ n) × (size_or_index_in (n + x * half) ≡ x)
halves_of n x h = (omega arith, omega arith)

packed_is : (s : Said ℕ) → in_halves s ≡ number_of s + capped (size_or_index_of s) * half
packed_is (granted v) = sym (packs_granted (0 + capped v * half) v refl)
packed_is (refused n) = sym (packs_refused (n + capped 0 * half) n refl)
packed_is (refused_at n i) = sym (packs_refused_at (n + capped i * half) n i refl)

pub halves : (s : Said ℕ) → number_of s < half → (number_in (in_halves s) ≡ number_of s) × (size_or_index_in (in_halves s) ≡ capped (size_or_index_of s))
halves s h =
    let p = halves_of (number_of s) (capped (size_or_index_of s)) h in
    (ap number_in (packed_is s) ∙ p.0, ap size_or_index_in (packed_is s) ∙ p.1)

-- so two answers are told apart: by the number, and by what is beside it where a half can hold it
pub told_apart : (s t : Said ℕ) → number_of s < half → number_of t < half → size_or_index_of s < half → size_or_index_of t < half
    → in_halves s ≡ in_halves t → (number_of s ≡ number_of t) × (size_or_index_of s ≡ size_or_index_of t)
told_apart s t hs ht bs bt e =
    let p = halves s hs in
    let q = halves t ht in
    let low : number_of s ≡ number_of t = sym p.0 ∙ (ap number_in e ∙ q.0) in
    let high : capped (size_or_index_of s) ≡ capped (size_or_index_of t) = sym p.1 ∙ (ap size_or_index_in e ∙ q.1) in
    (low, omega arith)

-- a number in the low half is a refusal's
pub low_refused : (s : Said ℕ) → 0 < number_in (in_halves s) → is_refusal s ≡ true
low_refused (granted v) h = absurd (let z = (halves (granted v) (omega arith)).0 in omega arith)
low_refused (refused n) h = refl
low_refused (refused_at n i) h = refl

-- what is named where it is granted makes none
pub refused_before : {A : Type 0} (s : Said A) (f : A → ℕ) → is_refusal (next s (λ a. granted (f a))) ≡ is_refusal s
refused_before (granted a) f = refl
refused_before (refused n) f = refl
refused_before (refused_at n i) f = refl
