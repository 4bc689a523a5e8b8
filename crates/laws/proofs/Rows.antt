-- A look through the rows of a constant list: at row k it is there, or the rows that are left say what these said.
use mathlib.Core.Path.{◌≡◌, refl, ap}
use mathlib.Core.Bool.{Bool, true, false, ◌||◌}
use mathlib.Core.List.{List, [], ◌∷◌, map}
use Prim.Native.Nat.{ℕ, zero, suc, ◌+◌, ◌<◌}
use native.Mathlib.Numerals.{add-one}
use native.Mathlib.Omega.{arith}
use lib.ListN.{length, get_or, drop}
use Rattle.laws.specs.Lists.{every, some}
use Rattle.laws.proofs.Tests.{and_l, and_r}

-- past the end, another row may stand for none
pub other_end : {A : Type 0} (d e : A) (l : List A) (k : ℕ) → k < length l → get_or l k d ≡ get_or l k e
other_end d e [] k h = absurd (omega arith)
other_end d e (x ∷ l) zero h = refl
other_end d e (x ∷ l) (suc k) h = other_end d e l k (omega arith)

-- a table made of the rows by a rule has the rule's value at each of them
pub mapped_at : {A B : Type 0} (f : A → B) (d : A) (z : B) (l : List A) (k : ℕ) → k < length l → get_or (map f l) k z ≡ f (get_or l k d)
mapped_at f d z [] k h = absurd (omega arith)
mapped_at f d z (x ∷ l) zero h = refl
mapped_at f d z (x ∷ l) (suc k) h = mapped_at f d z l k (omega arith)

-- what holds of every row holds of row k
pub every_at : {A : Type 0} (p : A → Bool) (d : A) (l : List A) (k : ℕ) → every p l ≡ true → k < length l → p (get_or l k d) ≡ true
every_at p d [] k a h = absurd (omega arith)
every_at p d (x ∷ l) zero a h = and_l (p x) (every p l) a
every_at p d (x ∷ l) (suc k) a h = every_at p d l k (and_r (p x) (every p l) a) (omega arith)

-- ---- the look: at row k, it is there, or those that are left say what these said

pub some_here : {A : Type 0} (p : A → Bool) (d : A) (l : List A) (k : ℕ) → k < length l → p (get_or l k d) ≡ true → some p (drop k l) ≡ true
some_here p d [] k h q = absurd (omega arith)
some_here p d (x ∷ l) zero h q = rw q
some_here p d (x ∷ l) (suc k) h q = some_here p d l k (omega arith) q

some_suc : {A : Type 0} (p : A → Bool) (d : A) (l : List A) (k : ℕ) → k < length l → p (get_or l k d) ≡ false → some p (drop (suc k) l) ≡ some p (drop k l)
some_suc p d [] k h q = absurd (omega arith)
some_suc p d (x ∷ l) zero h q = rw q
some_suc p d (x ∷ l) (suc k) h q = some_suc p d l k (omega arith) q

pub some_next : {A : Type 0} (p : A → Bool) (d : A) (l : List A) (k : ℕ) → k < length l → p (get_or l k d) ≡ false → some p (drop (k + 1) l) ≡ some p (drop k l)
some_next p d l k h q = rw add-one (some_suc p d l k h q)

pub some_map : {A B : Type 0} (p : B → Bool) (f : A → B) (l : List A) → some p (map f l) ≡ some (λ x. p (f x)) l
some_map p f [] = refl
some_map p f (x ∷ l) = ap (λ (b : Bool). p (f x) || b) (some_map p f l)
