-- In records in rising order those with a state below s come first, so one look on each side of a count tells it.
use mathlib.Core.Path.{◌≡◌, refl, ap}
use mathlib.Core.Logic.{⊎_elim}
use mathlib.Core.Bool.{Bool, true, false, ◌&&◌, ◌||◌}
use mathlib.Core.List.{List, [], ◌∷◌}
use Prim.Native.Nat.{ℕ, zero, suc, ◌-◌, ◌≤◌, ◌<◌}
use native.Mathlib.Nat.{not-suc-le-zero, le_of_suc-le-suc}
use native.Mathlib.Omega.{arith}
use borrow.Author.Tests.{lt-ltb, le-ltb, le-leb, eq-eqb, ne_eqb, ltb-true, leb-true, eqb-true}
use lib.Dec.{leb, ltb, eqb}
use lib.ListN.{length, get_or}
use Rattle.laws.specs.Lists.{table, tally, one}
use Rattle.laws.proofs.Tests.{and_l, and_r, and_i, le_or_lt}
use Rattle.laws.proofs.Either.{bool_eq, or_cases, or_inl, or_inr}
use Rattle.laws.proofs.Tables.{length_table, get_or_table}
use Rattle.laws.proofs.Tally.{tally_le, one_le}
use Rattle.book_rules.specs.Form.{Form, FormLaws}
use Rattle.book_rules.specs.Rules.{Rec, rec_state, ok_rec, below}
use Rattle.book_rules.specs.Steps.{rank}
use Rattle.book_rules.proofs.Sound.{Sound}
use Rattle.book_rules.proofs.Ranks.{who_fits}

module _ (f : Form) (fl : FormLaws f) where
  below_none : (r : Rec) (t : List Rec) (s : ℕ) → ok_rec f r ≡ true → s ≤ rec_state r → Sound f (rank f r) t → below t s ≡ 0
  unfolding below tally
  below_none r [] s o l h = refl
  below_none r (q ∷ t) s o l h =
      let k : r.first ≤ q.first = omega (arith, h.1, who_fits f fl q h.0) in
      let e : ltb (rec_state q) s ≡ false = le-ltb (rec_state q) s (omega arith) in
      rw e (omega (arith, below_none q t s h.0 (omega arith) h.2))

  -- the first `below t s` are those, and the rest are not
  below_first : (x : ℕ) (t : List Rec) (s i : ℕ) (d : Rec) → Sound f x t → i < below t s → rec_state (get_or t i d) < s
  unfolding below tally
  below_first x [] s i d h l = absurd (not-suc-le-zero l)
  below_first x (r ∷ t) s zero d h l =
      ⊎_elim (λ (k : rec_state r < s). k)
      (λ (k : s ≤ rec_state r).
      absurd
      (let e : one (ltb (rec_state r) s) ≡ 0 = ap one (le-ltb (rec_state r) s k) in let z = below_none r t s h.0 k h.2 in omega arith))
      (le_or_lt (rec_state r) s)
  below_first x (r ∷ t) s (suc i) d h l = below_first (rank f r) t s i d h.2 (let o = one_le (ltb (rec_state r) s) in omega arith)

  rest_above : (x : ℕ) (t : List Rec) (s i : ℕ) (d : Rec) → Sound f x t → below t s ≤ i → i < length t → s ≤ rec_state (get_or t i d)
  unfolding below tally
  rest_above x [] s i d h b l = absurd (not-suc-le-zero l)
  rest_above x (r ∷ t) s zero d h b l =
      ⊎_elim (λ (k : rec_state r < s). absurd (let e : one (ltb (rec_state r) s) ≡ 1 = ap one (lt-ltb (rec_state r) s k) in omega arith))
      (λ (k : s ≤ rec_state r). k)
      (le_or_lt (rec_state r) s)
  rest_above x (r ∷ t) s (suc i) d h b l =
      rest_above (rank f r) t s i d h.2
      (⊎_elim (λ (k : rec_state r < s). let e : one (ltb (rec_state r) s) ≡ 1 = ap one (lt-ltb (rec_state r) s k) in omega arith)
      (λ (k : s ≤ rec_state r). let z = below_none r t s h.0 k h.2 in omega arith)
      (le_or_lt (rec_state r) s))
      (le_of_suc-le-suc l)

-- ---- a count, told by one look on each side

module _ (f : Form) (fl : FormLaws f) (n : ℕ) (g : ℕ → Rec) (h : Sound f 0 (table n g)) (s : ℕ) where
  pub count_first : (i : ℕ) → i < n → i < below (table n g) s → rec_state (g i) < s
  count_first i m l = rw (get_or_table n i g (g 0) m) at (below_first f fl 0 (table n g) s i (g 0) h l)

  pub count_rest : (i : ℕ) → i < n → below (table n g) s ≤ i → s ≤ rec_state (g i)
  count_rest i m l = rw (get_or_table n i g (g 0) m) at (rest_above f fl 0 (table n g) s i (g 0) h l (rw length_table m))

  b_le : below (table n g) s ≤ n
  unfolding below
  b_le = rw length_table at (tally_le (λ r. ltb (rec_state r) s) (table n g))

  pub too_many : (c : ℕ) → n < c → eqb c (below (table n g) s) ≡ false
  too_many c l = ne_eqb c (below (table n g) s) (λ e. omega (arith, b_le))

  pub count_told : (c : ℕ) → c ≤ n → eqb c (below (table n g) s) ≡ ((eqb c 0 || ltb (rec_state (g (c - 1))) s) && (eqb c n || leb s (rec_state (g c))))
  count_told c l =
      let b : ℕ = below (table n g) s in
      let x : ℕ = rec_state (g (c - 1)) in
      let y : ℕ = rec_state (g c) in
      let ends : Bool = eqb c 0 || ltb x s in
      let starts : Bool = eqb c n || leb s y in
      bool_eq (eqb c b) (ends && starts)
      (λ e.
      let q : c ≡ b = eqb-true c b e in
      and_i ends starts
      (⊎_elim (λ (z : 0 < c). or_inr (eqb c 0) (ltb x s) (lt-ltb x s (count_first (c - 1) (omega arith) (omega arith))))
      (λ (z : c ≤ 0). or_inl (eqb c 0) (ltb x s) (eq-eqb c 0 (omega arith))) (le_or_lt 0 c))
      (⊎_elim (λ (z : c < n). or_inr (eqb c n) (leb s y) (le-leb s y (count_rest c z (omega arith))))
      (λ (z : n ≤ c). or_inl (eqb c n) (leb s y) (eq-eqb c n (omega arith))) (le_or_lt c n)))
      (λ e.
      let e1 = or_cases (eqb c 0) (ltb x s) (and_l ends starts e) in
      let e2 = or_cases (eqb c n) (leb s y) (and_r ends starts e) in
      eq-eqb c b
      (⊎_elim
      (λ (z : c < b).
      let a1 : c < n = omega (arith, b_le) in
      let a2 = count_first c a1 z in
      absurd (⊎_elim (λ k. let j = eqb-true c n k in omega arith) (λ k. let j = leb-true s y k in omega arith) e2))
      (λ (m : b ≤ c).
      ⊎_elim
      (λ (z : b < c).
      let a2 = count_rest (c - 1) (omega arith) (omega arith) in
      absurd (⊎_elim (λ k. let j = eqb-true c 0 k in omega arith) (λ k. let j = ltb-true x s k in omega arith) e1))
      (λ (z : c ≤ b). omega arith)
      (le_or_lt b c))
      (le_or_lt c b)))
