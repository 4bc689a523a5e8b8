-- What is heard at a position follows from which bursts reach so far; past the middle length at most one does, and clashes with none.
use mathlib.Core.Path.{◌≡◌, refl, ap, ◌∙◌}
use mathlib.Core.Logic.{⊎_elim}
use mathlib.Core.Bool.{true, false}
use mathlib.Core.List.{List, [], ◌∷◌}
use Prim.Native.Nat.{ℕ, ◌≤◌, ◌<◌}
use native.Mathlib.Omega.{arith}
use lib.ListN.{length, take, drop, get_or, drop_of_length-le}
use lib.Seq.{drop-cons}
use Rattle.laws.proofs.Tests.{no_both, le_or_lt}
use Rattle.laws.proofs.Ranges.{lowest_passes, lowest_least}
use Rattle.burst.specs.Vote.{voted_length, heard, clash, clash_at}

pub here : (l : List ℕ) (i : ℕ) → i < length l → take 1 (drop i l) ≡ get_or l i 0 ∷ []
here l i h = rw (drop-cons l i 0)

pub gone : (l : List ℕ) (i : ℕ) → length l ≤ i → take 1 (drop i l) ≡ []
gone l i h = rw drop_of_length-le

module _ (a b c : List ℕ) (i : ℕ) where
  pub of_abc : i < length a → i < length b → i < length c → heard a b c i ≡ get_or a i 0 ∷ get_or b i 0 ∷ get_or c i 0 ∷ []
  of_abc p q r = rw (here a i p, here b i q, here c i r)

  pub of_ab : i < length a → i < length b → length c ≤ i → heard a b c i ≡ get_or a i 0 ∷ get_or b i 0 ∷ []
  of_ab p q r = rw (here a i p, here b i q, gone c i r)

  pub of_ac : i < length a → length b ≤ i → i < length c → heard a b c i ≡ get_or a i 0 ∷ get_or c i 0 ∷ []
  of_ac p q r = rw (here a i p, gone b i q, here c i r)

  pub of_bc : length a ≤ i → i < length b → i < length c → heard a b c i ≡ get_or b i 0 ∷ get_or c i 0 ∷ []
  of_bc p q r = rw (gone a i p, here b i q, here c i r)

  pub of_c : length a ≤ i → length b ≤ i → heard a b c i ≡ take 1 (drop i c)
  of_c p q = rw (gone a i p, gone b i q)

  pub only_a : i < length a → length b ≤ i → length c ≤ i → heard a b c i ≡ get_or a i 0 ∷ []
  only_a p q r = rw (here a i p, gone b i q, gone c i r)

  pub only_b : length a ≤ i → i < length b → length c ≤ i → heard a b c i ≡ get_or b i 0 ∷ []
  only_b p q r = rw (gone a i p, here b i q, gone c i r)

-- a lone byte clashes with none
pub silent : (l : List ℕ) → clash (take 1 l) ≡ false
unfolding clash
silent [] = refl
silent (x ∷ l) = refl

-- past the middle length at most one reaches, and a lone byte clashes with none
pub past_middle : (a b c : List ℕ) (i : ℕ) → voted_length a b c ≤ i → clash (heard a b c i) ≡ false
unfolding clash
past_middle a b c i h =
    ⊎_elim
    (λ p. rw (only_a a b c i p (omega arith) (omega arith)))
    (λ p. ⊎_elim (λ q. rw (only_b a b c i p q (omega arith))) (λ q. ap clash (of_c a b c i p q) ∙ silent (drop i c)) (le_or_lt i (length b)))
    (le_or_lt i (length a))

-- 3 is given exactly where two bytes differ at a position that only two reach, and carries the lowest such position
pub clash_lowest : (a b c : List ℕ) (i : ℕ) → clash (heard a b c i) ≡ true → (i < voted_length a b c) × (clash_at a b c (voted_length a b c) ≤ i)
clash_lowest a b c i e =
    ⊎_elim (λ (l : i < voted_length a b c). (l, lowest_least (λ j. clash (heard a b c j)) (voted_length a b c) 0 i (omega arith) (omega arith) e))
    (λ (l : voted_length a b c ≤ i). no_both (clash (heard a b c i)) e (past_middle a b c i l)) (le_or_lt i (voted_length a b c))

pub clash_there : (a b c : List ℕ) → clash_at a b c (voted_length a b c) < voted_length a b c → clash (heard a b c (clash_at a b c (voted_length a b c))) ≡ true
clash_there a b c h = lowest_passes (λ j. clash (heard a b c j)) (voted_length a b c) 0 (omega arith)
