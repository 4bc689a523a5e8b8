-- The test of the entries that are left says what the test of all says: so the first that fails settles it, and so does the end.
use Prim.Native.Nat.{ℕ, zero, suc, ◌+◌, ◌≤◌, ◌<◌}
use mathlib.Core.Path.{◌≡◌, refl, sym, ap, ◌∙◌}
use mathlib.Core.List.{List, [], ◌∷◌, ◌++◌}
use mathlib.Core.Bool.{Bool, true, false, ◌&&◌, and-false}
use native.Mathlib.Numerals.{add-one}
use native.Mathlib.Omega.{arith}
use lib.ListN.{length, get_or, drop}
use lib.Seq.{drop-cons, drop-length}
use lib.Dec.{eqb}
use borrow.Author.Tests.{eq-eqb, eqb-true}
use Rattle.std.specs.List.{list_all}
use Rattle.laws.specs.Lists.{every, same}
use Rattle.laws.proofs.Tests.{impossible}

pub every_append : {A : Type 0} (p : A → Bool) (xs ys : List A) → every p (xs ++ ys) ≡ every p xs && every p ys
every_append p [] ys = refl
every_append p (x ∷ xs) ys = go (p x) (every_append p xs ys)
  where
    go : (b : Bool) → every p (xs ++ ys) ≡ every p xs && every p ys → b && every p (xs ++ ys) ≡ (b && every p xs) && every p ys
    go true e = e
    go false e = refl

-- the library's test is the same test
pub every_is : {A : Type 0} (p : A → Bool) (xs : List A) → list_all p xs ≡ every p xs
every_is p [] = refl
every_is p (x ∷ xs) = ap (λ (b : Bool). p x && b) (every_is p xs)

-- one entry that fails settles it, wherever it stands
pub every_fails : (p : ℕ → Bool) (b : List ℕ) (k : ℕ) → p (get_or b k 0) ≡ false → k < length b → every p b ≡ false
every_fails p [] k t h = absurd (omega arith)
every_fails p (x ∷ xs) zero t h = rw t
every_fails p (x ∷ xs) (suc k) t h = rw (every_fails p xs k t (omega arith)) (and-false (p x))

-- ---- the loop: the test of those that are left says what the test of all says

pub record Left (p : ℕ → Bool) (b : List ℕ) (k : ℕ) : Type 0 where
  pub low : k ≤ length b
  pub all : every p (drop k b) ≡ every p b

module _ (p : ℕ → Bool) (b : List ℕ) where
  pub begun : Left p b 0
  begun = record { low = omega arith; all = refl }

  cut : (k : ℕ) → k < length b → drop k b ≡ get_or b k 0 ∷ drop (k + 1) b
  cut k h = drop-cons b k 0 h ∙ rw add-one

  pub passed : (k : ℕ) → k < length b → p (get_or b k 0) ≡ true → Left p b k → Left p b (k + 1)
  passed k h t l = record { low = omega arith; all = sym (ap (every p) (cut k h) ∙ simp t) ∙ l.all }

  pub failed : (k : ℕ) → k < length b → p (get_or b k 0) ≡ false → Left p b k → every p b ≡ false
  failed k h t l = every_fails p b k t h

  pub ended : (k : ℕ) → length b ≤ k → Left p b k → every p b ≡ true
  ended k h l =
      let e : k ≡ length b = omega (arith, l.low) in
      sym l.all ∙ ap (every p) (ap (λ (m : ℕ). drop m b) e ∙ drop-length b)

-- ---- two lists

pub same_refl : (x : List ℕ) → same x x ≡ true
same_refl [] = refl
same_refl (x ∷ xs) = rw (eq-eqb x x refl) (same_refl xs)

pub same_eq : (x y : List ℕ) → same x y ≡ true → x ≡ y
same_eq [] [] q = refl
same_eq [] (y ∷ ys) q = impossible q
same_eq (x ∷ xs) [] q = impossible q
same_eq (x ∷ xs) (y ∷ ys) q = by (eqb x y) refl q (λ r. same_eq xs ys r)
  where
    by : (b : Bool) → eqb x y ≡ b → (b && same xs ys) ≡ true → (same xs ys ≡ true → xs ≡ ys) → x ∷ xs ≡ y ∷ ys
    by true p r k = let a : x ≡ y = eqb-true x y p in let t : xs ≡ ys = k r in cc
    by false p r k = impossible r

pub differ : (a b : List ℕ) → (length a ≡ length b → ⊥) → same a b ≡ false
differ [] [] h = absurd (h refl)
differ [] (y ∷ ys) h = refl
differ (x ∷ xs) [] h = refl
differ (x ∷ xs) (y ∷ ys) h = go (eqb x y) (differ xs ys (λ e. h (ap suc e)))
  where
    go : (t : Bool) → same xs ys ≡ false → t && same xs ys ≡ false
    go true e = e
    go false e = refl
