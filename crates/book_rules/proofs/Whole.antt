-- A layout of sound records is a good book with those records, rule by rule; and a good book's records are sound.
use mathlib.Core.Path.{◌≡◌, refl, sym, ap, ◌∙◌}
use mathlib.Core.Logic.{⊎_elim}
use mathlib.Core.Bool.{true}
use mathlib.Core.List.{List, [], ◌∷◌, ◌++◌, append_assoc}
use Prim.Native.Nat.{ℕ, zero, suc, ◌+◌, ◌-◌, ◌*◌, ◌≤◌, ◌<◌}
use native.Mathlib.Nat.{not-suc-le-zero, le_of_suc-le-suc, eq-or-lt_of_le}
use native.Mathlib.Numerals.{add-one}
use native.Mathlib.Omega.{arith}
use borrow.Author.Tests.{lt-ltb, eq-eqb, ltb-true}
use lib.Dec.{ltb, eqb}
use lib.ListN.{length, get_or, replicate, length-append, length-replicate, get_or-replicate, get_or-append, replicate-append-replicate}
use lib.Seq.{slice, take_at, drop_at, get_or-append-add}
use Rattle.laws.specs.Lists.{table, tally}
use Rattle.laws.specs.Numbers.{within}
use Rattle.laws.proofs.Tests.{and_l, and_r, and_i, within_lo, within_hi, within_i}
use Rattle.laws.proofs.All.{all_at, all_true}
use Rattle.laws.proofs.Tables.{length_table, get_or_table}
use Rattle.laws.proofs.Tally.{tally_le}
use Rattle.book_rules.specs.Form.{Form, FormLaws}
use Rattle.book_rules.specs.Rules.{Rec, pair_below, rec_at, recs, total, rec_state, ok_rec, below, words, layout, empty}
use Rattle.book_rules.specs.Rules.{good, counts_right, records_right, rising, unused_zero}
use Rattle.book_rules.specs.Steps.{rank, rising_rank}
use Rattle.book_rules.proofs.Laid.{words_recs, length_words, words_inj}
use Rattle.book_rules.proofs.Good.{Good, good_from}
use Rattle.book_rules.proofs.Sound.{Sound}
use Rattle.book_rules.proofs.Pairs.{rising_is, below_rank}

-- ---- a record in range

pub record Ok (f : Form) (r : Rec) : Type 0 where
  pub low : 1 ≤ rec_state r
  pub high : rec_state r ≤ 99
  pub fine : f.fine r.second ≡ true

module _ (f : Form) where
  pub ok_says : (r : Rec) → ok_rec f r ≡ true → Ok f r
  unfolding ok_rec
  ok_says r e =
      let k = and_l (within 1 99 (rec_state r)) (f.fine r.second) e in
      record {
        low = within_lo 1 99 (rec_state r) k;
        high = within_hi 1 99 (rec_state r) k;
        fine = and_r (within 1 99 (rec_state r)) (f.fine r.second) e;
      }

  pub ok_from : (r : Rec) → Ok f r → ok_rec f r ≡ true
  unfolding ok_rec
  ok_from r h = and_i (within 1 99 (rec_state r)) (f.fine r.second) (within_i 1 99 (rec_state r) h.low h.high) h.fine

-- ---- from an index to the list and back

module _ (f : Form) (d : Rec) where
  pub sound_ok : (x : ℕ) (s : List Rec) (i : ℕ) → Sound f x s → i < length s → ok_rec f (get_or s i d) ≡ true
  sound_ok x [] i h l = absurd (not-suc-le-zero l)
  sound_ok x (r ∷ s) zero h l = h.0
  sound_ok x (r ∷ s) (suc i) h l = sound_ok (rank f r) s i h.2 (le_of_suc-le-suc l)

  pub sound_step : (x : ℕ) (s : List Rec) (i : ℕ) → Sound f x s → suc i < length s → rank f (get_or s i d) < rank f (get_or s (suc i) d)
  sound_step x [] i h l = absurd (not-suc-le-zero l)
  sound_step x (r ∷ []) i h l = absurd (omega arith)
  sound_step x (r ∷ q ∷ s) zero h l = h.2.1
  sound_step x (r ∷ q ∷ s) (suc i) h l = sound_step (rank f r) (q ∷ s) i h.2 (le_of_suc-le-suc l)

  pub sound_snoc : (x : ℕ) (s : List Rec) (r : Rec) → Sound f x s → ok_rec f r ≡ true → x < rank f r
      → ((i : ℕ) → i < length s → rank f (get_or s i d) < rank f r) → Sound f x (s ++ (r ∷ []))
  sound_snoc x [] r h o l b = (o, l, tt)
  sound_snoc x (q ∷ s) r h o l b = (h.0, h.1, sound_snoc (rank f q) s r h.2 o (b 0 (omega arith)) (λ i k. b (suc i) (omega arith)))

module _ (f : Form) where
  chain : (n : ℕ) (g : ℕ → Rec) → ((i : ℕ) → i + 1 < n → rank f (g i) < rank f (g (i + 1))) → (j i : ℕ) → i < j → j < n → rank f (g i) < rank f (g j)
  chain n g h zero i l k = absurd (not-suc-le-zero l)
  chain n g h (suc j) i l k =
      let s : rank f (g j) < rank f (g (suc j)) = rw add-one at (h j (omega arith)) in
      ⊎_elim (λ (e : i ≡ j). rw e s) (λ (m : i < j). let c = chain n g h j i m (omega arith) in omega arith) (eq-or-lt_of_le (le_of_suc-le-suc l))

  pub sound_table : (n : ℕ) (g : ℕ → Rec) → ((i : ℕ) → i < n → ok_rec f (g i) ≡ true) → ((i : ℕ) → i + 1 < n → rank f (g i) < rank f (g (i + 1)))
      → Sound f 0 (table n g)
  unfolding table
  sound_table zero g o h = tt
  sound_table (suc n) g o h =
      let k : ok_rec f (g n) ≡ true = o n (omega arith) in
      sound_snoc f (g 0) 0 (table n g) (g n) (sound_table n g (λ i l. o i (omega arith)) (λ i l. h i (omega arith))) k
      (let a = (ok_says f (g n) k).low in omega arith)
      (λ i l. let m : i < n = rw length_table at l in rw (get_or_table n i g (g 0) m) (chain (suc n) g h n i m (omega arith)))

  -- ---- the records of a book whose records are in range and rise are sound

  pub sound_of : (w : List ℕ) (n : ℕ) → records_right f w n ≡ true → rising_rank f w n ≡ true → Sound f 0 (table n (rec_at w))
  unfolding records_right rising_rank
  sound_of w n a b =
      sound_table n (rec_at w) (λ i l. all_at n i (λ k. ok_rec f (rec_at w k)) a l)
      (λ i l.
      ltb-true (rank f (rec_at w i)) (rank f (rec_at w (i + 1)))
      (all_at (n - 1) i (λ k. ltb (rank f (rec_at w k)) (rank f (rec_at w (k + 1)))) b (omega arith)))

  pub good_rising : FormLaws f → (w : List ℕ) → Good f w → rising_rank f w (total w) ≡ true
  good_rising l w g = sym (rising_is f l w (total w) g.right) ∙ g.order

  pub good_sound : FormLaws f → (w : List ℕ) → Good f w → Sound f 0 (recs w)
  unfolding recs
  good_sound l w g = sound_of w (total w) g.right (good_rising l w g)

-- ---- the counts of a layout

pub count_layout : (s : List Rec) (i : ℕ) → i < 101 → get_or (layout s) i 0 ≡ below s i
unfolding layout
count_layout s i l =
    get_or-append (table 101 (below s)) (words s ++ replicate (8192 - 2 * length s) 0) 0 i (rw length_table l) ∙ get_or_table 101 i (below s) 0 l

-- every count of a layout is at most the number of its records
pub layout_low : (s : List Rec) (i : ℕ) → i < 101 → get_or (layout s) i 0 ≤ length s
unfolding below
layout_low s i l = rw (count_layout s i l) (tally_le (λ r. ltb (rec_state r) i) s)

-- ---- the layout of sound records is a good book, with those records

pub length_layout : (s : List Rec) → length s ≤ 4096 → length (layout s) ≡ 8293
unfolding layout
length_layout s few =
    length-append (table 101 (below s)) (words s ++ replicate (8192 - 2 * length s) 0)
    ∙ rw (length_table, length-append (words s) (replicate (8192 - 2 * length s) 0), length_words s, length-replicate) (omega arith)

below_all : (f : Form) (x : ℕ) (s : List Rec) → Sound f x s → below s 100 ≡ length s
unfolding below tally
below_all f x [] h = refl
below_all f x (r ∷ s) h =
    let o = ok_says f r h.0 in
    let e : ltb (rec_state r) 100 ≡ true = lt-ltb (rec_state r) 100 (omega (arith, o.high)) in
    rw e (omega (arith, below_all f (rank f r) s h.2))

slice_layout : (s : List Rec) → slice 101 (101 + 2 * length s) (layout s) ≡ words s
unfolding layout
slice_layout s =
    let c : List ℕ = table 101 (below s) in
    let z : List ℕ = replicate (8192 - 2 * length s) 0 in
    let lc : length c ≡ 101 = length_table 101 (below s) in
    let l : length (c ++ words s) ≡ 101 + 2 * length s = length-append c (words s) ∙ rw (lc, length_words s) in
    rw (← append_assoc c (words s) z, take_at (c ++ words s) z (101 + 2 * length s) l) (drop_at c (words s) 101 lc)

unused_layout : (s : List Rec) (j : ℕ) → j < 8192 - 2 * length s → get_or (layout s) (101 + 2 * length s + j) 0 ≡ 0
unfolding layout
unused_layout s j l =
    let c : List ℕ = table 101 (below s) in
    let z : List ℕ = replicate (8192 - 2 * length s) 0 in
    let lc : length c ≡ 101 = length_table 101 (below s) in
    let n : length (c ++ words s) ≡ 101 + 2 * length s = length-append c (words s) ∙ rw (lc, length_words s) in
    rw (← append_assoc c (words s) z, ← n) (get_or-append-add (c ++ words s) z j 0 ∙ get_or-replicate (8192 - 2 * length s) j 0 0 l)

module _ (f : Form) (s : List Rec) (h : Sound f 0 s) where
  pub total_layout : total (layout s) ≡ length s
  total_layout = count_layout s 100 (omega arith) ∙ below_all f 0 s h

  pub recs_layout : length s ≤ 4096 → recs (layout s) ≡ s
  unfolding recs
  recs_layout few =
      rw total_layout
      (words_inj (table (length s) (rec_at (layout s))) s (words_recs (length s) (layout s) (rw (length_layout s few) (omega arith)) ∙ slice_layout s))

  pub layout_good : FormLaws f → length s ≤ 4096 → good f (layout s) ≡ true
  unfolding counts_right records_right rising unused_zero recs
  layout_good laws few =
      let w : List ℕ = layout s in
      let n : ℕ = length s in
      let r : table n (rec_at w) ≡ s = rw total_layout at (recs_layout few) in
      let d : Rec = rec_at w 0 in
      let at : (i : ℕ) → i < n → rec_at w i ≡ get_or s i d = λ i l. sym (get_or_table n i (rec_at w) d l) ∙ ap (λ (t : List Rec). get_or t i d) r in
      let ok : (i : ℕ) → i < n → ok_rec f (rec_at w i) ≡ true = λ i l. ap (ok_rec f) (at i l) ∙ sound_ok f d 0 s i h l in
      good_from f w (record {
        len = length_layout s few;
        few = rw total_layout few;
        right = rw total_layout (all_true n (λ i. ok_rec f (rec_at w i)) ok);
        order = rw total_layout
            (all_true (n - 1) (λ i. pair_below f (rec_at w i) (rec_at w (i + 1)))
            (λ i l.
            below_rank f laws (rec_at w i) (rec_at w (i + 1)) (ok i (omega arith)) (ok (i + 1) (omega arith))
            ∙ lt-ltb (rank f (rec_at w i)) (rank f (rec_at w (i + 1)))
            (let m : suc i < length s = omega arith in
            let a : rank f (rec_at w i) ≡ rank f (get_or s i d) = ap (rank f) (at i (omega arith)) in
            let b : rank f (rec_at w (i + 1)) ≡ rank f (get_or s (suc i) d) = ap (rank f) (at (i + 1) (omega arith)) ∙ rw add-one in
            let k = sound_step f d 0 s i h m in
            omega arith)));
        counts = rw total_layout
            (all_true 101 (λ i. eqb (get_or w i 0) (below (table n (rec_at w)) i))
            (λ i l. eq-eqb (get_or w i 0) (below (table n (rec_at w)) i) (count_layout s i l ∙ ap (λ (t : List Rec). below t i) (sym r))));
        unused = rw total_layout
            (all_true (8192 - 2 * n) (λ j. eqb (get_or w (101 + 2 * n + j) 0) 0) (λ j l. eq-eqb (get_or w (101 + 2 * n + j) 0) 0 (unused_layout s j l)));
      })

-- ---- the empty book

table_zero : (n : ℕ) → table {A = ℕ} n (λ i. 0) ≡ replicate n 0
unfolding table
table_zero zero = refl
table_zero (suc n) = rw (table_zero n) (replicate-append-replicate n 1 0 ∙ (let e : n + 1 ≡ suc n = omega arith in rw e))

pub empty_layout : layout [] ≡ empty
unfolding layout below tally words
empty_layout = rw (table_zero 101) (replicate-append-replicate 101 8192 0)
