-- Texts of one length that are alike as far as both reach are the same; those of two lengths are not.
use mathlib.Core.Path.{◌≡◌, refl, ap, ◌∙◌}
use mathlib.Core.Bool.{Bool, true, false, ◌&&◌}
use mathlib.Core.List.{List, [], ◌∷◌}
use Prim.Native.Nat.{ℕ}
use native.Mathlib.Omega.{arith}
use lib.Dec.{eqb}
use lib.ListN.{length}
use borrow.Author.Tests.{ne_eqb}
use Rattle.std.specs.List.{list_all, zip}
use Rattle.laws.specs.Lists.{same}
use Rattle.codec.proofs.same.Goals as goal

pairs_alike : (a b : List ℕ) → length a ≡ length b → list_all (λ (x : ℕ × ℕ). eqb x.0 x.1) (zip a b) ≡ same a b
pairs_alike [] [] e = refl
pairs_alike [] (y ∷ ys) e = absurd (omega arith)
pairs_alike (x ∷ xs) [] e = absurd (omega arith)
pairs_alike (x ∷ xs) (y ∷ ys) e = ap (λ (b : Bool). eqb x y && b) (pairs_alike xs ys (omega arith))

not_same : (a b : List ℕ) → (length a ≡ length b → ⊥) → false ≡ same a b
not_same [] [] n = absurd (n refl)
not_same [] (y ∷ ys) n = refl
not_same (x ∷ xs) [] n = refl
not_same (x ∷ xs) (y ∷ ys) n = by (eqb x y) (not_same xs ys (λ e. n (omega arith)))
  where
    by : (b : Bool) → false ≡ same xs ys → false ≡ b && same xs ys
    by true e = e
    by false e = refl

pub returns-then-a-b : goal.returns-then-a-b
returns-then-a-b c = record { says = c.alike.ensures ∙ pairs_alike c.args.a.now c.args.b.now c.if-a-b.true }

pub returns-else-a-b : goal.returns-else-a-b
returns-else-a-b c = record { says = ne_eqb _ _ c.if-a-b.false ∙ not_same c.args.a.now c.args.b.now c.if-a-b.false }
