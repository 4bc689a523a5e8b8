-- Entry i of a table by a rule is the rule at i; a constant table is compared once with the table of its rule.
use mathlib.Core.Path.{◌≡◌, refl, sym, ap, ◌∙◌, subst}
use mathlib.Core.Logic.{⊎_elim}
use mathlib.Core.List.{List, [], ◌∷◌}
use Prim.Native.Nat.{ℕ, zero, suc, ◌+◌, ◌≤◌, ◌<◌}
use native.Mathlib.Nat.{not-suc-le-zero, le_of_suc-le-suc, eq-or-lt_of_le, zero-add}
use native.Mathlib.Omega.{arith}
use lib.ListN.{length, get_or, take, length-append, get_or-append}
use lib.Seq.{take-suc, get_or_at}
use Rattle.laws.specs.Lists.{table}

module _ {ℓ} {A : Type ℓ} where
  pub length_table : (n : ℕ) (g : ℕ → A) → length (table n g) ≡ n
  unfolding table
  length_table zero g = refl
  length_table (suc n) g = rw (length-append, length_table n g) (omega arith)

  pub get_or_table : (n i : ℕ) (f : ℕ → A) (d : A) → i < n → get_or (table n f) i d ≡ f i
  unfolding table
  get_or_table zero i f d l = absurd (not-suc-le-zero l)
  get_or_table (suc n) i f d l =
      ⊎_elim (λ (q : i ≡ n). get_or_at (table n f) (f n) [] d i (length_table n f ∙ sym q) ∙ ap f (sym q))
      (λ (q : i < n).
      get_or-append (table n f) (f n ∷ []) d i (subst (λ (k : ℕ). i < k) (sym (length_table n f)) q)
      ∙ get_or_table n i f d q)
      (eq-or-lt_of_le (le_of_suc-le-suc l))

  pub table_ext : (n : ℕ) (f g : ℕ → A) → ((i : ℕ) → i < n → f i ≡ g i) → table n f ≡ table n g
  unfolding table
  table_ext zero f g h = refl
  table_ext (suc n) f g h = rw (table_ext n f g (λ i l. h i (omega arith)), h n (omega arith))

pub table_take : (n : ℕ) (w : List ℕ) → n ≤ length w → table n (λ i. get_or w i 0) ≡ take n w
unfolding table
table_take zero w l = refl
table_take (suc n) w l = rw (table_take n w (omega arith), take-suc w n 0 l)

-- ---- a constant table: tabulate its rule, and antt compares the two lists; then the rule holds at each entry

-- f i, f (i + 1), .. , n of them
abbrev pub run : (ℕ → ℕ) → ℕ → ℕ → List ℕ
run f i zero = []
run f i (suc n) = f i ∷ run f (suc i) n

run_at : (f : ℕ → ℕ) (i n k : ℕ) → k < n → get_or (run f i n) k 0 ≡ f (i + k)
run_at f i zero k h = absurd (omega arith)
run_at f i (suc n) zero h = ap f (omega arith)
run_at f i (suc n) (suc k) h = run_at f (suc i) n k (omega arith) ∙ ap f (omega arith)

pub tabled : (f : ℕ → ℕ) (n k : ℕ) → k < n → get_or (run f 0 n) k 0 ≡ f k
tabled f n k h = run_at f 0 n k h ∙ ap f (zero-add k)
