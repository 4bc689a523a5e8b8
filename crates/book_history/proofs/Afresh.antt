-- A good book is known by its subscriptions in rising order, so a book built afresh is the only one; it is there exactly if they could stand together.
use mathlib.Core.Path.{◌≡◌, refl, sym, ap, ◌∙◌}
use mathlib.Core.Bool.{Bool, true}
use mathlib.Core.List.{List, [], ◌∷◌, map}
use Prim.Native.Nat.{ℕ, ◌≤◌}
use native.Mathlib.Omega.{arith}
use lib.Dec.{ltb}
use Rattle.laws.specs.Lists.{tally}
use Rattle.laws.proofs.Counting.{some_tally, length_map}
use Rattle.book_rules.specs.Form.{Form, FormLaws}
use Rattle.book_rules.specs.Rules.{recs, layout, good, empty}
use Rattle.book_rules.specs.Subscription.{Sub, how_often, is_pair}
use Rattle.book_rules.specs.Afresh.{sub_of, subs, Afresh, Apart, more, Valid, sorted, built}
use Rattle.book_rules.specs.History.{stands_in}
use Rattle.book_rules.proofs.Laid.{length_recs}
use Rattle.book_rules.proofs.Good.{good_says, good_layout}
use Rattle.book_rules.proofs.Whole.{good_sound, empty_layout}
use Rattle.book_history.specs.Members.{is_in, Rise}
use Rattle.book_history.proofs.Same.{same_tallies, same_members}
use Rattle.book_history.proofs.Subs.{rec_of_sub, recs_back, sound_rise}
use Rattle.book_history.proofs.Keeps.{same_rise, rise_apart}
use Rattle.book_history.proofs.Ranges.{apart_once, valid_over}
use Rattle.book_history.proofs.Holds.{Holds, holds_insert, holds_book}

module _ (f : Form) (l : FormLaws f) where
  -- ---- the subscriptions of a good book

  -- they stand in rising order of (first word, client), each in range
  pub book_rise : (w : List ℕ) → good f w ≡ true → Rise 0 (subs f w)
  unfolding subs
  book_rise w g = sound_rise f l 0 (recs w) (good_sound f l w (good_says f w g))

  pub book_valid : (w : List ℕ) → good f w ≡ true → Valid (subs f w)
  unfolding subs
  book_valid w g = record {
    apart = rise_apart 0 (subs f w) (book_rise w g);
    few = let k = (good_says f w g).few in omega (arith, length_map (sub_of f) (recs w), length_recs w);
  }

  -- one client holds one subscription per place
  pub one_per_place : (w : List ℕ) (place client : ℕ) → good f w ≡ true → tally (is_pair place client) (subs f w) ≤ 1
  one_per_place w place client g = apart_once place client (book_valid w g).apart

  -- a good book is known by its subscriptions
  pub book_of_subs : (w : List ℕ) → good f w ≡ true → w ≡ layout (map (rec_of_sub f) (subs f w))
  unfolding subs
  book_of_subs w g =
      let k = good_says f w g in
      good_layout f w k ∙ ap layout (sym (recs_back f l 0 (recs w) (good_sound f l w k)))

  -- ---- one book only

  pub one_book : (a b : List Sub) (w u : List ℕ) → ((x : Sub) → how_often x a ≡ how_often x b) → Afresh f a w → Afresh f b u → w ≡ u
  one_book a b w u e p q =
      let members : (x : Sub) → is_in x (subs f w) ≡ is_in x (subs f u) =
      same_members (subs f w) (subs f u) (λ x. p.exactly x ∙ e x ∙ sym (q.exactly x)) in
      let s : subs f w ≡ subs f u = same_rise 0 0 (subs f w) (subs f u) (book_rise w p.keeps) (book_rise u q.keeps) members in
      book_of_subs w p.keeps ∙ ap (λ (t : List Sub). layout (map (rec_of_sub f) t)) s ∙ sym (book_of_subs u q.keeps)

  -- ---- some book

  holds_sorted : (list : List Sub) → Apart list → Holds f list (sorted f list)
  unfolding sorted stands_in
  holds_sorted [] a = record { sound = tt; alike = λ t. refl }
  holds_sorted (x ∷ list) (more range once a) =
      holds_insert f l x.place x.client x.wish range list (sorted f list) (holds_sorted list a)
      (some_tally (is_pair x.place x.client) list ∙ ap (ltb 0) once)

  pub some_book : (list : List Sub) → Valid list → Afresh f list (built f list)
  unfolding built
  some_book list v = holds_book f l list (sorted f list) (holds_sorted list v.apart) v.few

  -- ---- nothing out of range has a book

  pub afresh_tallies : (list : List Sub) (w : List ℕ) → Afresh f list w → (t : Sub → Bool) → tally t (subs f w) ≡ tally t list
  afresh_tallies list w a = same_tallies (subs f w) list a.exactly

  pub afresh_valid : (list : List Sub) (w : List ℕ) → Afresh f list w → Valid list
  afresh_valid list w a = valid_over (subs f w) list (afresh_tallies list w a) (book_valid w a.keeps)

-- ---- a good book is afresh from what it holds, and the empty book from nothing

pub good_afresh : (f : Form) (w : List ℕ) → good f w ≡ true → Afresh f (subs f w) w
good_afresh f w g = record { keeps = g; exactly = λ x. refl }

pub empty_afresh : (f : Form) → FormLaws f → Afresh f [] empty
empty_afresh f l = rw (← empty_layout) (holds_book f l [] [] (record { sound = tt; alike = λ t. refl }) (omega arith))
