-- What the library's `==` and `starts_with` of slices of numbers answer, said by `same`.
use mathlib.Core.Path.{◌≡◌, refl, sym, ap, ◌∙◌}
use mathlib.Core.List.{List, [], ◌∷◌}
use mathlib.Core.Bool.{Bool, true, false, ◌&&◌}
use Prim.Native.Nat.{ℕ}
use lib.Dec.{eqb}
use lib.ListN.{length, take}
use lib.Pointwise.{pointwise}
use borrow.Author.Tests.{eqb-true, eqb-false, eq-eqb, ne_eqb}
use Rattle.std.specs.List.{starts_with}
use Rattle.laws.specs.Lists.{same}

pub pointwise_same : (xs ys : List ℕ) → pointwise eqb xs ys ≡ same xs ys
pointwise_same [] [] = refl
pointwise_same [] (y ∷ ys) = refl
pointwise_same (x ∷ xs) [] = refl
pointwise_same (x ∷ xs) (y ∷ ys) = ap (λ b. eqb x y && b) (pointwise_same xs ys)

eqb_swap : (x y : ℕ) → eqb x y ≡ eqb y x
eqb_swap x y = go (eqb x y) refl
  where
    go : (b : Bool) → eqb x y ≡ b → b ≡ eqb y x
    go true e = sym (eq-eqb y x (sym (eqb-true x y e)))
    go false e = sym (ne_eqb y x (λ q. eqb-false x y e (sym q)))

same_swap : (xs ys : List ℕ) → same xs ys ≡ same ys xs
same_swap [] [] = refl
same_swap [] (y ∷ ys) = refl
same_swap (x ∷ xs) [] = refl
same_swap (x ∷ xs) (y ∷ ys) = λ q. eqb_swap x y q && same_swap xs ys q

pub starts_same : (l word : List ℕ) → starts_with eqb l word ≡ same (take (length word) l) word
starts_same l word = pointwise_same word (take (length word) l) ∙ same_swap word (take (length word) l)
