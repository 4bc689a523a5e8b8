-- A client is below 10,000, so a rank is one place and one client: a pair stands, and is left out, by its rank alone.
use mathlib.Core.Path.{◌≡◌, refl, sym, ap, ◌∙◌}
use mathlib.Core.Logic.{◌⊎◌, inl, inr, ⊎_elim}
use mathlib.Core.Bool.{true, false, ◌&&◌, not}
use mathlib.Core.List.{List, [], ◌∷◌}
use Prim.Native.Nat.{ℕ, ◌+◌, ◌*◌, ◌≤◌, ◌<◌}
use native.Mathlib.Omega.{arith}
use borrow.Author.Tests.{eq-eqb, eqb-true}
use lib.Dec.{ltb, eqb}
use lib.ListN.{length}
use Rattle.laws.specs.Lists.{tally, keep}
use Rattle.laws.proofs.Tests.{and_l, and_r, and_i, le_or_lt}
use Rattle.laws.proofs.Either.{bool_eq}
use Rattle.laws.proofs.Counting.{some_tally}
use Rattle.laws.proofs.Tally.{length_keep, tally_le}
use Rattle.place.specs.FirstWord.{first_word, bad_place}
use Rattle.place.proofs.Words.{word_low, word_high}
use Rattle.book_rules.specs.Form.{Form, FormLaws, bad_client, bad_wish}
use Rattle.book_rules.specs.Rules.{Rec, ok_rec}
use Rattle.book_rules.specs.Edits.{rec_of, is_for, stands, insert, without}
use Rattle.book_rules.specs.Steps.{rank_of, has_rank, but_rank, rank}
use Rattle.book_rules.proofs.Form.{client_some, client_fits, wish_some, wish_fits}
use Rattle.book_rules.proofs.Sound.{Sound, insert_sound, keep_sound}
use Rattle.book_rules.proofs.Pairs.{insert_is}
use Rattle.book_rules.proofs.Whole.{ok_says, ok_from}

-- a first word and a client in range are known by their rank
same_rank : (a c b d : ℕ) → c ≤ 9999 → d ≤ 9999 → eqb a b && eqb c d ≡ eqb (a * 10000 + c) (b * 10000 + d)
same_rank a c b d hc hd =
    bool_eq (eqb a b && eqb c d) (eqb (a * 10000 + c) (b * 10000 + d))
    (λ e.
    let p : a ≡ b = eqb-true a b (and_l (eqb a b) (eqb c d) e) in
    let q : c ≡ d = eqb-true c d (and_r (eqb a b) (eqb c d) e) in
    eq-eqb (a * 10000 + c) (b * 10000 + d) (omega arith))
    (λ e.
    let p : a * 10000 + c ≡ b * 10000 + d = eqb-true (a * 10000 + c) (b * 10000 + d) e in
    and_i (eqb a b) (eqb c d) (eq-eqb a b (omega arith)) (eq-eqb c d (omega arith)))

-- the order of ranks is that of (first word, client)
pub rank_says : (a c b d : ℕ) → c ≤ 9999 → d ≤ 9999 → a * 10000 + c < b * 10000 + d → (a < b) ⊎ ((a ≡ b) × (c < d))
rank_says a c b d hc hd l = ⊎_elim (λ (k : a < b). inl k) (λ (k : b ≤ a). inr (omega arith, omega arith)) (le_or_lt a b)

pub rank_from : (a c b d : ℕ) → c ≤ 9999 → d ≤ 9999 → (a < b) ⊎ ((a ≡ b) × (c < d)) → a * 10000 + c < b * 10000 + d
rank_from a c b d hc hd (inl k) = omega arith
rank_from a c b d hc hd (inr k) = omega arith

module _ (f : Form) (l : FormLaws f) where
  -- the client of a record in range
  pub who_fits : (r : Rec) → ok_rec f r ≡ true → f.who r.second ≤ 9999
  who_fits r o = (l.fine_who r.second (ok_says f r o).fine).1

  pub is_for_rank : (place client : ℕ) (r : Rec) → ok_rec f r ≡ true → client ≤ 9999 → is_for f place client r ≡ eqb (rank f r) (rank_of place client)
  is_for_rank place client r o h = same_rank r.first (f.who r.second) (first_word place) client (who_fits r o) h

  -- ---- of sound records

  tally_for : (x place client : ℕ) (s : List Rec) → Sound f x s → client ≤ 9999
      → tally (is_for f place client) s ≡ tally (λ r. eqb (rank f r) (rank_of place client)) s
  unfolding tally
  tally_for x place client [] h k = refl
  tally_for x place client (r ∷ s) h k = rw (is_for_rank place client r h.0 k, tally_for (rank f r) place client s h.2 k)

  pub stands_rank : (x place client : ℕ) (s : List Rec) → Sound f x s → client ≤ 9999 → stands f place client s ≡ has_rank f s (rank_of place client)
  unfolding stands
  stands_rank x place client s h k = some_tally (is_for f place client) s ∙ ap (ltb 0) (tally_for x place client s h k)

  pub without_rank : (x place client : ℕ) (s : List Rec) → Sound f x s → client ≤ 9999 → without f place client s ≡ but_rank f (rank_of place client) s
  unfolding without keep
  without_rank x place client [] h k = refl
  without_rank x place client (r ∷ s) h k = rw (is_for_rank place client r h.0 k, without_rank (rank f r) place client s h.2 k)

  -- ---- the record of a subscription in range

  pub ok_of : (place client wish : ℕ) → bad_client client ≡ false → bad_place place ≡ false → bad_wish wish ≡ false → ok_rec f (rec_of f place client wish) ≡ true
  ok_of place client wish bc bp bw =
      let a = word_low place bp in
      let b = word_high place bp in
      ok_from f (rec_of f place client wish)
      (record {
        low = omega arith;
        high = omega arith;
        fine = l.made_fine client wish (client_some client bc) (client_fits client bc) (wish_some wish bw) (wish_fits wish bw);
      })

  -- the rank that the code computes is its record's
  pub rank_of_is : (place client wish : ℕ) → bad_wish wish ≡ false → rank_of place client ≡ rank f (rec_of f place client wish)
  rank_of_is place client wish e = ap (λ (c : ℕ). first_word place * 10000 + c) (sym (l.who_made client wish (wish_fits wish e)))

  -- put in where its pair does not stand
  pub insert_fresh : (place client wish : ℕ) (s : List Rec) → bad_client client ≡ false → bad_place place ≡ false → bad_wish wish ≡ false
      → Sound f 0 s → stands f place client s ≡ false → Sound f 0 (insert f (rec_of f place client wish) s)
  insert_fresh place client wish s bc bp bw h free =
      let r : Rec = rec_of f place client wish in
      let k : rank_of place client ≡ rank f r = rank_of_is place client wish bw in
      let st : has_rank f s (rank f r) ≡ false = ap (has_rank f s) (sym k) ∙ sym (stands_rank 0 place client s h (client_fits client bc)) ∙ free in
      let c = client_some client bc in
      let o : ok_rec f r ≡ true = ok_of place client wish bc bp bw in
      rw (insert_is f l 0 r s o h) (insert_sound f 0 r s o (omega arith) st h)

-- ---- the records without a pair

pub length_without : (f : Form) (place client : ℕ) (s : List Rec) → length (without f place client s) ≤ length s
unfolding without
length_without f place client s =
    rw (length_keep (λ r. not (is_for f place client r)) s) (tally_le (λ r. not (is_for f place client r)) s)

pub without_sound : (f : Form) (x place client : ℕ) (s : List Rec) → Sound f x s → Sound f x (without f place client s)
unfolding without
without_sound f x place client s h = keep_sound f (λ r. not (is_for f place client r)) x s h
