-- Sound records hold some subscriptions if every test passes as often among both: putting in and leaving out keep that.
use mathlib.Core.Path.{◌≡◌, refl, sym, ap, ◌∙◌}
use mathlib.Core.Bool.{Bool, true, false, ◌&&◌, not}
use mathlib.Core.List.{List, [], ◌∷◌, map}
use Prim.Native.Nat.{ℕ, ◌+◌, ◌≤◌}
use native.Mathlib.Omega.{arith}
use lib.Dec.{ltb}
use lib.ListN.{length}
use Rattle.laws.specs.Lists.{tally, one, keep}
use Rattle.laws.proofs.Tally.{tally_map}
use Rattle.laws.proofs.Counting.{some_tally, tally_true, tally_keep, tally_cons, length_map}
use Rattle.place.specs.FirstWord.{bad_place}
use Rattle.book_rules.specs.Form.{Form, FormLaws}
use Rattle.book_rules.specs.Rules.{Rec, recs, layout}
use Rattle.book_rules.specs.Steps.{rank}
use Rattle.book_rules.specs.Edits.{rec_of, is_for, stands, insert, without}
use Rattle.book_rules.specs.Subscription.{Sub, sub, same_sub, how_often, is_pair, InRange}
use Rattle.book_rules.specs.Afresh.{sub_of, subs, Afresh}
use Rattle.book_rules.specs.History.{stands_in}
use Rattle.book_rules.proofs.Good.{good_says}
use Rattle.book_rules.proofs.Sound.{Sound}
use Rattle.book_rules.proofs.Whole.{good_sound, recs_layout, layout_good}
use Rattle.book_rules.proofs.Ranks.{insert_fresh, without_sound}
use Rattle.book_rules.proofs.Edited.{tally_insert}
use Rattle.book_history.proofs.Same.{same_tallies}
use Rattle.book_history.proofs.Subs.{sub_back, pair_is_for}

pub record Holds (f : Form) (list : List Sub) (s : List Rec) : Type 0 where
  pub sound : Sound f 0 s
  pub alike : (t : Sub → Bool) → tally t (map (sub_of f) s) ≡ tally t list

-- ---- the two questions that an edit asks

module _ (f : Form) (place client : ℕ) (bp : bad_place place ≡ false) where
  tally_pair : (x : ℕ) (s : List Rec) → Sound f x s → tally (is_for f place client) s ≡ tally (is_pair place client) (map (sub_of f) s)
  unfolding tally
  tally_pair x [] h = refl
  tally_pair x (r ∷ s) h = rw (pair_is_for f place client r h.0 bp, tally_pair (rank f r) s h.2)

  pub holds_stands : (list : List Sub) (s : List Rec) → Holds f list s → stands f place client s ≡ stands_in place client list
  unfolding stands stands_in
  holds_stands list s h =
      some_tally (is_for f place client) s
      ∙ ap (ltb 0) (tally_pair 0 s h.sound ∙ h.alike (is_pair place client))
      ∙ sym (some_tally (is_pair place client) list)

pub holds_length : (f : Form) (list : List Sub) (s : List Rec) → Holds f list s → length s ≡ length list
holds_length f list s h =
    sym (length_map (sub_of f) s) ∙ sym (tally_true (map (sub_of f) s)) ∙ h.alike (λ x. true) ∙ tally_true list

-- ---- one more

module _ (f : Form) (l : FormLaws f) (place client wish : ℕ) (range : InRange (sub place client wish)) where
  pub holds_insert : (list : List Sub) (s : List Rec) → Holds f list s → stands_in place client list ≡ false
      → Holds f (sub place client wish ∷ list) (insert f (rec_of f place client wish) s)
  holds_insert list s h free =
      let r : Rec = rec_of f place client wish in
      let off : stands f place client s ≡ false = holds_stands f place client range.place list s h ∙ free in
      record {
        sound = insert_fresh f l place client wish s range.client range.place range.wish h.sound off;
        alike = λ t.
            tally_map t (sub_of f) (insert f r s)
            ∙ tally_insert f (λ q. t (sub_of f q)) r s
            ∙ ap (λ (x : Sub). one (t x) + tally (λ q. t (sub_of f q)) s) (sub_back f l place client wish range.place range.wish)
            ∙ ap (λ (n : ℕ). one (t (sub place client wish)) + n) (sym (tally_map t (sub_of f) s) ∙ h.alike t)
            ∙ sym (tally_cons t (sub place client wish) list);
      }

-- ---- one less

module _ (f : Form) (place client : ℕ) (bp : bad_place place ≡ false) where
  tally_but : (t : Sub → Bool) (x : ℕ) (s : List Rec) → Sound f x s
      → tally (λ r. t (sub_of f r) && not (is_for f place client r)) s ≡ tally (λ r. t (sub_of f r) && not (is_pair place client (sub_of f r))) s
  unfolding tally
  tally_but t x [] h = refl
  tally_but t x (r ∷ s) h = rw (pair_is_for f place client r h.0 bp, tally_but t (rank f r) s h.2)

  pub holds_without : (list : List Sub) (s : List Rec) → Holds f list s → Holds f (keep (λ x. not (is_pair place client x)) list) (without f place client s)
  unfolding without
  holds_without list s h = record {
    sound = without_sound f 0 place client s h.sound;
    alike = λ t.
        let other : Sub → Bool = λ x. not (is_pair place client x) in
        tally_map t (sub_of f) (keep (λ r. not (is_for f place client r)) s)
        ∙ tally_keep (λ r. t (sub_of f r)) (λ r. not (is_for f place client r)) s
        ∙ tally_but t 0 s h.sound
        ∙ sym (tally_map (λ x. t x && other x) (sub_of f) s)
        ∙ h.alike (λ x. t x && other x)
        ∙ sym (tally_keep t other list);
  }

-- ---- records and books

pub holds_book : (f : Form) → FormLaws f → (list : List Sub) (s : List Rec) → Holds f list s → length list ≤ 4096 → Afresh f list (layout s)
unfolding subs how_often
holds_book f l list s h few =
    let k : length s ≤ 4096 = omega (arith, holds_length f list s h) in
    record {
      keeps = layout_good f s h.sound l k;
      exactly = λ x. ap (λ (q : List Rec). tally (same_sub x) (map (sub_of f) q)) (recs_layout f s h.sound k) ∙ h.alike (same_sub x);
    }

pub afresh_holds : (f : Form) → FormLaws f → (list : List Sub) (w : List ℕ) → Afresh f list w → Holds f list (recs w)
unfolding subs
afresh_holds f l list w a = record {
  sound = good_sound f l w (good_says f w a.keeps);
  alike = same_tallies (map (sub_of f) (recs w)) list a.exactly;
}
