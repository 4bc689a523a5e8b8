-- A range splits in two: where none passes in the first, the lowest is sought in the second, and a table is the two tables.
use mathlib.Core.Path.{◌≡◌, refl, sym, ap, ◌∙◌}
use mathlib.Core.Logic.{⊎_elim}
use mathlib.Core.Bool.{Bool, true, false}
use mathlib.Core.List.{List, [], ◌∷◌, ◌++◌, append_assoc, append-nil}
use Prim.Native.Nat.{ℕ, zero, suc, ◌+◌, ◌≤◌, ◌<◌}
use native.Mathlib.Nat.{add-zero, zero-add, suc-add, add-suc}
use native.Mathlib.Omega.{arith}
use lib.ListN.{length, get_or, take, drop, length-drop}
use lib.Seq.{get_or-drop}
use Rattle.laws.specs.Lists.{lowest, table}
use Rattle.laws.specs.Order.{choose}
use Rattle.laws.proofs.Tests.{no_both, le_or_lt}
use Rattle.laws.proofs.Tables.{table_ext, table_take}

-- where none of the first m numbers passes
pub lowest_skip : (p : ℕ → Bool) (m i n : ℕ) → ((j : ℕ) → i ≤ j → j < i + m → p j ≡ false) → lowest p i (m + n) ≡ lowest p (i + m) n
unfolding lowest
lowest_skip p zero i n h = rw (zero-add, add-zero)
lowest_skip p (suc m) i n h =
    let e : i + 1 + m ≡ i + suc m = omega arith in
    rw (suc-add, h i (omega arith) (omega arith))
    (lowest_skip p m (i + 1) n (λ j l g. h j (omega arith) (omega arith)) ∙ ap (λ (k : ℕ). lowest p k n) e)

-- two tests that agree on the range
pub lowest_ext : (p q : ℕ → Bool) (n i : ℕ) → ((j : ℕ) → i ≤ j → j < i + n → p j ≡ q j) → lowest p i n ≡ lowest q i n
unfolding lowest
lowest_ext p q zero i h = refl
lowest_ext p q (suc n) i h =
    rw (h i (omega arith) (omega arith), lowest_ext p q n (i + 1) (λ j l g. h j (omega arith) (omega arith)))

-- what is found passes, and nothing below it does
pub lowest_passes : (p : ℕ → Bool) (n i : ℕ) → lowest p i n < i + n → p (lowest p i n) ≡ true
unfolding lowest
lowest_passes p zero i h = absurd (omega arith)
lowest_passes p (suc n) i h = by (p i) refl h (lowest_passes p n (i + 1))
  where
    by : (b : Bool) → p i ≡ b → choose b i (lowest p (i + 1) n) < i + suc n → (lowest p (i + 1) n < i + 1 + n → p (lowest p (i + 1) n) ≡ true)
        → p (choose b i (lowest p (i + 1) n)) ≡ true
    by true e l k = e
    by false e l k = k (omega arith)

pub lowest_least : (p : ℕ → Bool) (n i j : ℕ) → i ≤ j → j < i + n → p j ≡ true → lowest p i n ≤ j
unfolding lowest
lowest_least p zero i j l h e = absurd (omega arith)
lowest_least p (suc n) i j l h e = by (p i) refl (λ g. lowest_least p n (i + 1) j g (omega arith) e)
  where
    by : (b : Bool) → p i ≡ b → (i + 1 ≤ j → lowest p (i + 1) n ≤ j) → choose b i (lowest p (i + 1) n) ≤ j
    by true q k = l
    by false q k = ⊎_elim (λ (g : i < j). k (omega arith)) (λ (g : j ≤ i). let z : j ≡ i = omega arith in no_both (p i) (sym (ap p z) ∙ e) q) (le_or_lt i j)

pub table-split {ℓ} : {A : Type ℓ} (m n : ℕ) (f : ℕ → A) → table (m + n) f ≡ table m f ++ table n (λ i. f (m + i))
unfolding table
table-split m zero f = rw add-zero (sym (append-nil (table m f)))
table-split m (suc n) f = rw (add-suc, table-split m n f) (append_assoc (table m f) (table n (λ i. f (m + i))) (f (m + n) ∷ []))

-- a table of the entries from m on
pub table_part : (m n : ℕ) (w : List ℕ) → m + n ≤ length w → table n (λ i. get_or w (m + i) 0) ≡ take n (drop m w)
table_part m n w h =
    table_ext n (λ i. get_or w (m + i) 0) (λ i. get_or (drop m w) i 0) (λ i l. sym (get_or-drop m w i 0))
    ∙ table_take n (drop m w) (omega (arith, length-drop m w))
