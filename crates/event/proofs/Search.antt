-- The search in the list of codes, and the class of what it finds.
use mathlib.Core.Path.{◌≡◌, refl, sym, ap, subst}
use mathlib.Core.Bool.{Bool, true, false, cond, ◌&&◌}
use mathlib.Core.List.{List, [], ◌∷◌, map}
use Prim.Native.Nat.{ℕ}
use lib.Dec.{eqb}
use lib.Pointwise.{pointwise}
use denote.Ref.{Bor}
use Rattle.std.specs.Prelude.{Option, Some, None, MatchOption}
use Rattle.std.specs.Option.{IsSomeAnd, option_map}
use Rattle.std.specs.List.{find}
use Rattle.laws.specs.Lists.{same, some}
use Rattle.laws.specs.Text.{ascii}
use Rattle.laws.proofs.Every.{same_eq}
use Rattle.laws.proofs.Rows.{some_map}
use Rattle.event.specs.Events.{events, is_listed}
use Rattle.event.specs.Class.{class_of}
use Rattle.event.specs.Steps.{codes, Found}

-- a row of the table: a code, and its class
abbrev pub row : List ℕ → List ℕ × ℕ
row e = (e, class_of e)

pub pointwise_same : (xs ys : List ℕ) → pointwise eqb xs ys ≡ same xs ys
pointwise_same [] [] = refl
pointwise_same [] (y ∷ ys) = refl
pointwise_same (x ∷ xs) [] = refl
pointwise_same (x ∷ xs) (y ∷ ys) = ap (λ (b : Bool). eqb x y && b) (pointwise_same xs ys)

abbrev pub rows : List (List ℕ × ℕ)
rows = map row codes

listed : (e : List ℕ) → some (same e) codes ≡ is_listed e
unfolding is_listed codes
listed e = some_map (same e) ascii events

-- the first row of some codes that has the code e
abbrev Has : List ℕ → List (List ℕ) → Option (List ℕ × ℕ) → Type 0
Has e l r = MatchOption r (some (same e) l ≡ false) (λ x. (some (same e) l ≡ true) × (x.1 ≡ class_of e))

first : (e : List ℕ) (l : List (List ℕ)) → Has e l (find (λ r. pointwise eqb e r.0) (map row l))
first e [] = refl
first e (x ∷ l) = rw (pointwise_same e x) (by (same e x) refl (first e l))
  where
    by : (b : Bool) → same e x ≡ b → Has e l (find (λ r. pointwise eqb e r.0) (map row l))
        → Has e (x ∷ l) (cond b (Some (row x)) (find (λ r. pointwise eqb e r.0) (map row l)))
    by true q k = (rw q, sym (ap class_of (same_eq e x q)))
    by false q k = rw q k

-- what is found in the whole table, and the class that it has
pub found : (e : List ℕ) (row : Option (Bor (List ℕ × ℕ))) (r : Option ℕ)
    → option_map (λ x. x.now) row ≡ find (λ r. pointwise eqb e r.0) rows
    → MatchOption row (r ≡ None) (λ x. IsSomeAnd r (λ k. k ≡ x.now.1)) → Found e r
found e None r p q = rw (q, ← listed e) (subst (Has e codes) (sym p) (first e codes))
found e (Some x) (Some k) p q = rw (q, ← listed e) (subst (Has e codes) (sym p) (first e codes))
found e (Some x) None p q = absurd q

-- the class that the table has for a listed code is the code's
pub listed_class : (e : List ℕ) (k : ℕ) → Found e (Some k) → k ≡ class_of e
listed_class e k f = f.1
