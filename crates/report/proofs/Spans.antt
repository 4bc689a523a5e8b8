-- The records of a book one after the other: one more adds itself to the count of hits, and its pair to their words, if it is one.
use mathlib.Core.Path.{◌≡◌, refl, sym, ap, ◌∙◌, subst}
use mathlib.Core.Logic.{⊎_elim}
use mathlib.Core.Bool.{Bool, true, false}
use mathlib.Core.List.{List, [], ◌∷◌, ◌++◌, append-nil, map}
use Prim.Native.Nat.{ℕ, zero, suc, ◌+◌, ◌*◌, ◌≤◌, ◌<◌}
use native.Mathlib.Nat.{eq-or-lt_of_le, le_refl}
use native.Mathlib.Numerals.{add-one}
use native.Mathlib.Omega.{arith}
use Rattle.std.specs.List.{count_by}
use Rattle.std.proofs.lemmas.List.Sums.{count_by_more_yes, count_by_more_no}
use lib.Seq.{take-length}
use lib.ListN.{length, take, get_or, length-append, length-map}
use Rattle.laws.specs.Lists.{table, tally, one, keep}
use Rattle.laws.specs.Space.{pasted}
use Rattle.laws.proofs.Tally.{tally_append, tally_le, tally_more, length_keep, keep_append}
use Rattle.laws.proofs.Tables.{length_table}
use Rattle.laws.proofs.Pasted.{pasted_two, pasted_nil}
use Rattle.book_rules.specs.Form.{form}
use Rattle.book_rules.specs.Rules.{Rec, recs}
use Rattle.book_rules.specs.Subscription.{Sub}
use Rattle.book_rules.specs.Afresh.{sub_of}
use Rattle.report.specs.Hits.{pairs}
use Rattle.report.specs.Steps.{rec_of, recs_in, hit_subs, pair, hit_words, WroteHits}

-- ---- pairs of words

pub pairs_append : (s t : List Sub) → pairs (s ++ t) ≡ pairs s ++ pairs t
unfolding pairs
pairs_append [] t = refl
pairs_append (x ∷ s) t = rw (pairs_append s t)

pub length_pairs : (s : List Sub) → length (pairs s) ≡ 2 * length s
unfolding pairs
length_pairs [] = refl
length_pairs (x ∷ s) = let h : length (pairs s) ≡ 2 * length s = length_pairs s in omega arith

map_append : {A B : Type 0} (f : A → B) (s t : List A) → map f (s ++ t) ≡ map f s ++ map f t
map_append f [] t = refl
map_append f (x ∷ s) t = rw (map_append f s t)

-- ---- one record more: records by a rule g

module _ (g : ℕ → Rec) (i : ℕ) where
  pub one_more : table (i + 1) g ≡ table i g ++ (g i ∷ [])
  unfolding table
  one_more = rw add-one

  pub tally_one : (f : Rec → Bool) → tally f (table (i + 1) g) ≡ tally f (table i g) + one (f (g i))
  unfolding tally
  tally_one f = ap (tally f) one_more ∙ tally_append f (table i g) (g i ∷ []) ∙ omega arith

-- no count of fewer records is higher
tally_up : (f : Rec → Bool) (g : ℕ → Rec) (n i : ℕ) → i ≤ n → tally f (table i g) ≤ tally f (table n g)
tally_up f g zero i l = let e : i ≡ 0 = omega arith in rw e (le_refl (tally f (table 0 g)))
tally_up f g (suc n) i l =
    let m : tally f (table (suc n) g) ≡ tally f (table n g) + one (f (g n)) = rw add-one at (tally_more f g n) in
    ⊎_elim (λ (e : i ≡ suc n). rw e (le_refl (tally f (table (suc n) g)))) (λ (k : i < suc n). omega (arith, m, tally_up f g n i (omega arith)))
    (eq-or-lt_of_le l)

-- and none is higher than the records are many
pub tally_few : (f : Rec → Bool) (rs : List (List ℕ)) → tally f (recs_in rs) ≤ length rs
unfolding recs_in
tally_few f rs =
    let g : ℕ → Rec = λ i. rec_of (get_or rs i []) in
    omega (arith, tally_le f (table (length rs) g), length_table (length rs) g)

-- the library's count of some pairs of words is that of their records
module _ (f : Rec → Bool) (rs : List (List ℕ)) where
  abbrev nth : ℕ → Rec
  nth i = rec_of (get_or rs i [])

  counted_more : (i : ℕ) (b : Bool) → i < length rs → f (nth i) ≡ b → count_by (λ r. f (rec_of r)) (take (i + 1) rs) ≡ count_by (λ r. f (rec_of r)) (take i rs) + one b
  counted_more i true h e = count_by_more_yes (λ r. f (rec_of r)) rs i [] h e
  counted_more i false h e = count_by_more_no (λ r. f (rec_of r)) rs i [] h e ∙ omega arith

  counted_upto : (i : ℕ) → i ≤ length rs → count_by (λ r. f (rec_of r)) (take i rs) ≡ tally f (table i nth)
  unfolding tally table
  counted_upto zero h = refl
  counted_upto (suc i) h =
      subst (λ (m : ℕ). count_by (λ r. f (rec_of r)) (take m rs) ≡ tally f (table m nth)) (add-one i)
      (counted_more i (f (nth i)) (omega arith) refl ∙ ap (λ (n : ℕ). n + one (f (nth i))) (counted_upto i (omega arith)) ∙ sym (tally_one nth i f))

  pub counted : count_by (λ r. f (rec_of r)) rs ≡ tally f (recs_in rs)
  unfolding recs_in
  counted = ap (count_by (λ r. f (rec_of r))) (sym (take-length rs)) ∙ counted_upto (length rs) (le_refl (length rs))

-- ---- the words of the hits

module _ (k : Rec → Bool) where
  pub words_append : (s t : List Rec) → hit_words k (s ++ t) ≡ hit_words k s ++ hit_words k t
  unfolding hit_words
  words_append s t =
      ap (λ (l : List Rec). pairs (map (sub_of form) l)) (keep_append k s t)
      ∙ ap pairs (map_append (sub_of form) (keep k s) (keep k t))
      ∙ pairs_append (map (sub_of form) (keep k s)) (map (sub_of form) (keep k t))

  pub words_length : (s : List Rec) → length (hit_words k s) ≡ 2 * tally k s
  unfolding hit_words
  words_length s =
      length_pairs (map (sub_of form) (keep k s)) ∙ ap (λ (n : ℕ). 2 * n) (length-map (keep k s) (sub_of form) ∙ length_keep k s)

  -- another test that says the same of a record
  pub words_same : (j : Rec → Bool) (r : Rec) → j r ≡ k r → hit_words j (r ∷ []) ≡ hit_words k (r ∷ [])
  unfolding hit_words keep
  words_same j r e = rw e

  pub words_yes : (r : Rec) → k r ≡ true → hit_words k (r ∷ []) ≡ pair r
  unfolding hit_words keep
  words_yes r e = rw e

  pub words_no : (r : Rec) → k r ≡ false → hit_words k (r ∷ []) ≡ []
  unfolding hit_words keep pairs
  words_no r e = rw e

  -- the words of a book's hits
  pub book_words : (rs : List (List ℕ)) (w : List ℕ) → recs_in rs ≡ recs w → hit_words k (recs_in rs) ≡ pairs (hit_subs k w)
  unfolding hit_words hit_subs
  book_words rs w e = ap (λ (s : List Rec). pairs (map (sub_of form) (keep k s))) e

  pub book_count : (rs : List (List ℕ)) (w : List ℕ) → recs_in rs ≡ recs w → tally k (recs_in rs) ≡ length (hit_subs k w)
  book_count rs w e =
      let d : 2 * tally k (recs_in rs) ≡ 2 * length (hit_subs k w) =
      sym (words_length (recs_in rs)) ∙ ap length (book_words rs w e) ∙ length_pairs (hit_subs k w) in
      omega arith

  -- ---- the loop that writes

  module _ (g : ℕ → Rec) (i n at : ℕ) (d : List ℕ) (high : i < n) (room : at + 2 * tally k (table n g) ≤ length d) where
    abbrev sofar : List ℕ
    sofar = hit_words k (table i g)

    abbrev onemore : List ℕ
    onemore = hit_words k (table (i + 1) g)

    more : onemore ≡ sofar ++ hit_words k (g i ∷ [])
    more = ap (hit_words k) (one_more g i) ∙ words_append (table i g) (g i ∷ [])

    here : length (hit_words k (g i ∷ [])) ≡ 2 * one (k (g i))
    unfolding tally
    here = words_length (g i ∷ []) ∙ omega arith

    pub fits : at + length sofar + 2 * one (k (g i)) ≤ length d
    fits =
        let l = words_length (table i g) in
        let u = tally_up k g n (i + 1) (omega arith) in
        let t = tally_one g i k in
        omega (arith, room)

    -- the record is written by another test that says the same of it
    pub turn : (j : Rec → Bool) → j (g i) ≡ k (g i) → (d1 d2 : List ℕ) (e e2 : ℕ) → WroteHits d at sofar d1 e
        → WroteHits d1 e (hit_words j (g i ∷ [])) d2 e2 → WroteHits d at onemore d2 e2
    turn j same d1 d2 e e2 a b =
        let n : List ℕ = hit_words k (g i ∷ []) in
        let s : hit_words j (g i ∷ []) ≡ n = words_same j (g i) same in
        let f : at + length sofar + length n ≤ length d = rw here fits in
        let p : pasted (pasted d at sofar) (at + length sofar) n ≡ pasted d at (sofar ++ n) = pasted_two d at sofar n f in
        let l : length onemore ≡ length sofar + length n = ap length more ∙ length-append sofar n in
        record {
          space = b.space ∙ (λ q. pasted (a.space q) (a.next q) (s q)) ∙ p ∙ ap (pasted d at) (sym more);
          next = omega (arith, b.next, a.next, ap length s);
        }

    pub turn_no : (d1 : List ℕ) (e : ℕ) → k (g i) ≡ false → WroteHits d at sofar d1 e → WroteHits d at onemore d1 e
    turn_no d1 e h a =
        let m : onemore ≡ sofar = more ∙ ap (λ (l : List ℕ). sofar ++ l) (words_no (g i) h) ∙ append-nil sofar in
        record { space = a.space ∙ ap (pasted d at) (sym m); next = a.next ∙ ap (λ (l : List ℕ). at + length l) (sym m) }

  pub begun : (g : ℕ → Rec) (at : ℕ) (d : List ℕ) → WroteHits d at (hit_words k (table 0 g)) d at
  unfolding hit_words keep pairs table
  begun g at d = record { space = sym (pasted_nil d at); next = omega arith }
