-- A tally adds 1 for each entry that passes: so some entry passes where it is not 0, and among those kept it counts who passes both tests.
use mathlib.Core.Path.{◌≡◌, refl, sym, ap, ◌∙◌}
use mathlib.Core.Bool.{Bool, true, false, ◌&&◌, ◌||◌, and-true, and-false}
use mathlib.Core.List.{List, [], ◌∷◌, map}
use Prim.Native.Nat.{ℕ, suc, ◌+◌}
use native.Mathlib.Nat.{zero-add}
use native.Mathlib.Omega.{arith}
use borrow.Author.Tests.{lt-ltb}
use lib.Dec.{ltb}
use lib.ListN.{length}
use Rattle.laws.specs.Lists.{some, tally, one, keep}
use Rattle.laws.specs.Order.{choose}

pub one_none : (b : Bool) (n : ℕ) → one b + n ≡ 0 → b ≡ false
one_none true n e = absurd (omega arith)
one_none false n e = refl

pub length_map : {A B : Type 0} (g : A → B) (s : List A) → length (map g s) ≡ length s
length_map g [] = refl
length_map g (x ∷ s) = ap suc (length_map g s)

module _ {A : Type 0} where
  pub tally_cons : (p : A → Bool) (x : A) (s : List A) → tally p (x ∷ s) ≡ one (p x) + tally p s
  unfolding tally
  tally_cons p x s = refl

  -- some entry passes where the tally is not 0
  pub some_tally : (p : A → Bool) (s : List A) → some p s ≡ ltb 0 (tally p s)
  unfolding tally
  some_tally p [] = refl
  some_tally p (x ∷ s) = by (p x) (some_tally p s)
    where
      by : (b : Bool) → some p s ≡ ltb 0 (tally p s) → b || some p s ≡ ltb 0 (one b + tally p s)
      by true k = sym (lt-ltb 0 (1 + tally p s) (omega arith))
      by false k = k ∙ ap (ltb 0) (sym (zero-add (tally p s)))

  pub tally_true : (s : List A) → tally (λ x. true) s ≡ length s
  unfolding tally
  tally_true [] = refl
  tally_true (x ∷ s) = omega (arith, tally_true s)

  -- of those kept, as many pass as pass both tests
  pub tally_keep : (p q : A → Bool) (s : List A) → tally p (keep q s) ≡ tally (λ x. p x && q x) s
  unfolding keep tally
  tally_keep p q [] = refl
  tally_keep p q (x ∷ s) = by (q x) (tally_keep p q s)
    where
      by : (b : Bool) → tally p (keep q s) ≡ tally (λ x. p x && q x) s
          → tally p (choose b (x ∷ keep q s) (keep q s)) ≡ one (p x && b) + tally (λ x. p x && q x) s
      by true k = rw (and-true (p x)) (omega (arith, k))
      by false k = rw (and-false (p x)) (omega (arith, k))
