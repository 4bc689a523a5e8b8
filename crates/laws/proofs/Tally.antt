-- An entry adds 1 to the tally or nothing: so lists one after the other add up, and as many are kept as pass.
use mathlib.Core.Path.{◌≡◌, refl, ap}
use mathlib.Core.Bool.{Bool, true, false}
use mathlib.Core.List.{List, [], ◌∷◌, ◌++◌, map}
use Prim.Native.Nat.{ℕ, ◌+◌, ◌≤◌, ◌<◌}
use native.Mathlib.Numerals.{add-one}
use native.Mathlib.Omega.{arith}
use lib.ListN.{length, get_or, take}
use lib.Seq.{take-suc}
use Rattle.laws.specs.Lists.{tally, one, table, keep}
use Rattle.laws.specs.Order.{choose}

pub one_le : (b : Bool) → one b ≤ 1
one_le true = omega arith
one_le false = omega arith

module _ {ℓ} {A : Type ℓ} where
  pub tally_append : (f : A → Bool) (s t : List A) → tally f (s ++ t) ≡ tally f s + tally f t
  unfolding tally
  tally_append f [] t = omega arith
  tally_append f (x ∷ s) t = rw (tally_append f s t) (omega arith)

  pub tally_more : (f : A → Bool) (g : ℕ → A) (n : ℕ) → tally f (table (n + 1) g) ≡ tally f (table n g) + one (f (g n))
  unfolding table tally
  tally_more f g n = rw (add-one, tally_append f (table n g) (g n ∷ [])) (omega arith)

  pub tally_le : (f : A → Bool) (s : List A) → tally f s ≤ length s
  unfolding tally
  tally_le f [] = omega arith
  tally_le f (x ∷ s) = let h : tally f s ≤ length s = tally_le f s in omega (arith, one_le (f x))

pub tally_take : (f : ℕ → Bool) (l : List ℕ) (i : ℕ) → i < length l → tally f (take (i + 1) l) ≡ tally f (take i l) + one (f (get_or l i 0))
unfolding tally
tally_take f l i h = rw (add-one, take-suc l i 0 h, tally_append f (take i l) (get_or l i 0 ∷ [])) (omega arith)

pub tally_map : {A B : Type 0} (f : B → Bool) (g : A → B) (s : List A) → tally f (map g s) ≡ tally (λ x. f (g x)) s
unfolding tally
tally_map f g [] = refl
tally_map f g (x ∷ s) = ap (λ (n : ℕ). one (f (g x)) + n) (tally_map f g s)

module _ {A : Type 0} where
  pub length_keep : (f : A → Bool) (s : List A) → length (keep f s) ≡ tally f s
  unfolding keep tally
  length_keep f [] = refl
  length_keep f (x ∷ s) = by (f x) (length_keep f s)
    where
      by : (b : Bool) → length (keep f s) ≡ tally f s → length (choose b (x ∷ keep f s) (keep f s)) ≡ one b + tally f s
      by true k = omega (arith, k)
      by false k = omega (arith, k)

  pub keep_append : (f : A → Bool) (s t : List A) → keep f (s ++ t) ≡ keep f s ++ keep f t
  unfolding keep
  keep_append f [] t = refl
  keep_append f (x ∷ s) t = by (f x) (keep_append f s t)
    where
      by : (b : Bool) → keep f (s ++ t) ≡ keep f s ++ keep f t
          → choose b (x ∷ keep f (s ++ t)) (keep f (s ++ t)) ≡ choose b (x ∷ keep f s) (keep f s) ++ keep f t
      by true k = rw k
      by false k = k
