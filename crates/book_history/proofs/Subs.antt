-- A record and its subscription, each from the other: place and first word go back and forth, so pairs and order are the same.
use mathlib.Core.Path.{◌≡◌, refl, sym, ap, ◌∙◌}
use mathlib.Core.Bool.{Bool, true, false, ◌&&◌}
use mathlib.Core.List.{List, [], ◌∷◌, map}
use Prim.Native.Nat.{ℕ, ◌+◌, ◌*◌, ◌≤◌, ◌<◌}
use native.Mathlib.Omega.{arith}
use borrow.Author.Tests.{eq-eqb, ne_eqb, le-ltb, eqb-true}
use lib.Dec.{eqb}
use Rattle.laws.proofs.Either.{bool_eq}
use Rattle.place.specs.Place.{state}
use Rattle.place.specs.FirstWord.{first_word, place_of, state_of, bad_place}
use Rattle.place.proofs.Words.{fine, place_back, word_back, place_state}
use Rattle.book_rules.specs.Form.{Form, FormLaws, bad_wish}
use Rattle.book_rules.specs.Rules.{Rec, ok_rec}
use Rattle.book_rules.specs.Steps.{rank}
use Rattle.book_rules.specs.Edits.{rec_of, is_for}
use Rattle.book_rules.specs.Subscription.{Sub, sub, is_pair, InRange}
use Rattle.book_rules.specs.Afresh.{sub_of}
use Rattle.book_rules.proofs.Form.{wish_fits, client_fine, wish_fine}
use Rattle.book_rules.proofs.Laid.{rec_eq}
use Rattle.book_rules.proofs.Sound.{Sound}
use Rattle.book_rules.proofs.Whole.{ok_says}
use Rattle.book_history.specs.Members.{rank_sub, Rise}

-- the first word of a record in range
word_fits : (f : Form) (r : Rec) → ok_rec f r ≡ true → r.first < 1000000
word_fits f r o = let h = (ok_says f r o).high in omega arith

-- ---- a place from a first word

place_small : (word : ℕ) → word < 1000000 → place_of word ≤ 999999
unfolding place_of
place_small k h = omega arith

place_fine : (word : ℕ) → 1 ≤ state_of word → word < 1000000 → bad_place (place_of word) ≡ false
unfolding bad_place
place_fine k a h =
    let e = place_state k h in
    rw (le-ltb 999999 (place_of k) (place_small k h)) (ne_eqb (state (place_of k)) 0 (λ z. omega arith))

same_place : (word place : ℕ) → word < 1000000 → place ≤ 999999 → eqb word (first_word place) ≡ eqb (place_of word) place
same_place word place h k =
    bool_eq (eqb word (first_word place)) (eqb (place_of word) place)
    (λ e. eq-eqb (place_of word) place (ap place_of (eqb-true word (first_word place) e) ∙ place_back place k))
    (λ e. eq-eqb word (first_word place) (sym (word_back word h) ∙ ap first_word (eqb-true (place_of word) place e)))

-- ---- each from the other

abbrev pub rec_of_sub : Form → Sub → Rec
rec_of_sub f x = rec_of f x.place x.client x.wish

module _ (f : Form) (l : FormLaws f) where
  pub sub_back : (place client wish : ℕ) → bad_place place ≡ false → bad_wish wish ≡ false → sub_of f (rec_of f place client wish) ≡ sub place client wish
  sub_back place client wish bp bw =
      let a : place_of (first_word place) ≡ place = place_back place (fine place bp).small in
      let b : f.who (f.made client wish) ≡ client = l.who_made client wish (wish_fits wish bw) in
      let d : f.wish (f.made client wish) ≡ wish = l.wish_made client wish (wish_fits wish bw) in
      λ i. sub (a i) (b i) (d i)

  rec_back : (r : Rec) → ok_rec f r ≡ true → rec_of_sub f (sub_of f r) ≡ r
  rec_back r o = rec_eq (rec_of_sub f (sub_of f r)) r (word_back r.first (word_fits f r o)) (l.fine_made r.second (ok_says f r o).fine)

  pub recs_back : (x : ℕ) (s : List Rec) → Sound f x s → map (rec_of_sub f) (map (sub_of f) s) ≡ s
  recs_back x [] h = refl
  recs_back x (r ∷ s) h = rw (rec_back r h.0, recs_back (rank f r) s h.2)

  pub sub_in_range : (r : Rec) → ok_rec f r ≡ true → InRange (sub_of f r)
  sub_in_range r o =
      let k = ok_says f r o in
      let c = l.fine_who r.second k.fine in
      let v = l.fine_wish r.second k.fine in
      record {
        place = place_fine r.first k.low (word_fits f r o);
        client = client_fine (f.who r.second) c.0 c.1;
        wish = wish_fine (f.wish r.second) v.0 v.1;
      }

  -- ---- in the same order

  pub sound_rise : (k : ℕ) (s : List Rec) → Sound f k s → Rise k (map (sub_of f) s)
  sound_rise k [] h = tt
  sound_rise k (r ∷ s) h =
      let n : rank_sub (sub_of f r) ≡ rank f r = ap (λ (m : ℕ). m * 10000 + f.who r.second) (word_back r.first (word_fits f r h.0)) in
      (sub_in_range r h.0, rw n h.1, rw n (sound_rise (rank f r) s h.2))

-- ---- by place and client

pub pair_is_for : (f : Form) (place client : ℕ) (r : Rec) → ok_rec f r ≡ true → bad_place place ≡ false → is_for f place client r ≡ is_pair place client (sub_of f r)
pair_is_for f place client r o bp =
    ap (λ (b : Bool). b && eqb (f.who r.second) client) (same_place r.first place (word_fits f r o) (fine place bp).small)
