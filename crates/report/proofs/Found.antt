-- What the code takes for a hit of a good book is one: packed places match as the places do.
use Prim.Native.Nat.{ℕ, zero, suc, ◌≤◌, ◌<◌}
use mathlib.Core.Path.{◌≡◌, refl, sym, ap, ◌∙◌}
use mathlib.Core.Bool.{Bool, true, false, ◌&&◌}
use mathlib.Core.List.{List, [], ◌∷◌, ◌++◌, map}
use native.Mathlib.Omega.{arith}
use lib.Dec.{eqb, ltb}
use Rattle.laws.specs.Order.{choose}
use Rattle.laws.specs.Lists.{every, table, keep}
use Rattle.laws.specs.Numbers.{within}
use Rattle.laws.proofs.Tests.{and_l, within_hi}
use Rattle.laws.proofs.All.{all_at}
use Rattle.laws.proofs.Tally.{keep_append}
use Rattle.place.specs.Packed.{packed_place}
use Rattle.place.proofs.Packed.{packed_some}
use Rattle.book_rules.specs.Form.{form}
use Rattle.book_rules.specs.Rules.{Rec, rec_state, rec_at, recs, total, ok_rec, records_right, good}
use Rattle.book_rules.specs.Subscription.{Sub}
use Rattle.book_rules.specs.Afresh.{sub_of, subs}
use Rattle.book_rules.proofs.Good.{good_says}
use Rattle.report.specs.Hits.{has_class, matching, is_hit}
use Rattle.report.specs.Steps.{record_matches, found, hit_subs}

-- by the one test of the client: of the client's record it is left to ask whether it matches, and another's is no hit
module _ (client class : ℕ) (sent : List ℕ) (r : Rec) where
  pub own : eqb (form.who r.second) client ≡ true → found client class sent r ≡ record_matches class sent r
  unfolding found
  own e = rw e

  pub not_own : eqb (form.who r.second) client ≡ false → found client class sent r ≡ false
  unfolding found
  not_own e = rw e

-- the tests agree on every record of a table
keep_same : (f g : Rec → Bool) (n : ℕ) (h : ℕ → Rec) → ((i : ℕ) → i < n → f (h i) ≡ g (h i)) → keep f (table n h) ≡ keep g (table n h)
unfolding table keep
keep_same f g zero h e = refl
keep_same f g (suc n) h e =
    let a : keep f (table n h) ≡ keep g (table n h) = keep_same f g n h (λ i l. e i (omega arith)) in
    let b : f (h n) ≡ g (h n) = e n (omega arith) in
    keep_append f (table n h) (h n ∷ []) ∙ (λ q. a q ++ choose (b q) (h n ∷ []) []) ∙ sym (keep_append g (table n h) (h n ∷ []))

-- a test of the subscriptions of some records
abbrev by_sub : (Sub → Bool) → Rec → Bool
by_sub g r = g (sub_of form r)

keep_map : (g : Sub → Bool) (s : List Rec) → map (sub_of form) (keep (by_sub g) s) ≡ keep g (map (sub_of form) s)
unfolding keep
keep_map g [] = refl
keep_map g (r ∷ s) = by (by_sub g r) (keep_map g s)
  where
    by : (b : Bool) → map (sub_of form) (keep (by_sub g) s) ≡ keep g (map (sub_of form) s)
        → map (sub_of form) (choose b (r ∷ keep (by_sub g) s) (keep (by_sub g) s))
        ≡ choose b (sub_of form r ∷ keep g (map (sub_of form) s)) (keep g (map (sub_of form) s))
    by true k = rw k
    by false k = k

-- the first words of a good book have six digits
small : (w : List ℕ) → good form w ≡ true → (i : ℕ) → i < total w → (rec_at w i).first < 1000000
unfolding records_right ok_rec
small w g i l =
    let o = all_at (total w) i (λ k. ok_rec form (rec_at w k)) (good_says form w g).right l in
    let s : within 1 99 (rec_state (rec_at w i)) ≡ true = and_l _ (form.fine (rec_at w i).second) o in
    let h : rec_state (rec_at w i) ≤ 99 = within_hi 1 99 (rec_state (rec_at w i)) s in
    omega arith

module _ (client class : ℕ) (places : List ℕ) (six : every (λ p. ltb p 1000000) places ≡ true) where
  abbrev seen : Rec → Bool
  seen = found client class (map packed_place places)

  abbrev hit : Sub → Bool
  hit = is_hit client class places

  found_is : (r : Rec) → r.first < 1000000 → seen r ≡ by_sub hit r
  unfolding found record_matches is_hit matching
  found_is r h =
      let e = packed_some r.first places h six in
      λ i. eqb (form.who r.second) client && (e i && has_class (form.wish r.second) class)

  pub hits_found : (w : List ℕ) → good form w ≡ true → hit_subs seen w ≡ keep hit (subs form w)
  unfolding hit_subs subs recs
  hits_found w g =
      ap (map (sub_of form)) (keep_same seen (by_sub hit) (total w) (rec_at w) (λ i l. found_is (rec_at w i) (small w g i l)))
      ∙ keep_map hit (table (total w) (rec_at w))
