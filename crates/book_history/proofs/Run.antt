-- Edit by edit the book stays the one built afresh from what stands; so each edit finds the rows that what stands gives.
use mathlib.Core.Path.{◌≡◌, refl, sym, ap, ◌∙◌}
use mathlib.Core.Bool.{Bool, true, false, not}
use mathlib.Core.List.{List, [], ◌∷◌}
use Prim.Native.Nat.{ℕ, ◌≤◌}
use native.Mathlib.Omega.{arith}
use lib.Dec.{leb}
use lib.ListN.{length}
use Rattle.laws.specs.Order.{Said, granted, refused, refused_at}
use Rattle.laws.specs.Lists.{keep}
use Rattle.laws.specs.Space.{leaves}
use Rattle.laws.proofs.Tally.{length_keep, tally_le}
use Rattle.place.specs.FirstWord.{bad_place}
use Rattle.book_rules.specs.Form.{Form, FormLaws}
use Rattle.book_rules.specs.Rules.{Rec, recs}
use Rattle.book_rules.specs.Edits.{rec_of, full, add_says, added, insert, remove_says, removed, without}
use Rattle.book_rules.specs.Subscription.{Sub, sub, InRange, is_pair}
use Rattle.book_rules.specs.Afresh.{Afresh}
use Rattle.book_rules.specs.History.{Edit, adds, removes, answer, edited, after, stands_in, full_of, number, effect, standing_from}
use Rattle.book_rules.proofs.Edited.{AddOpen, add_open, remove_open, not_full}
use Rattle.book_history.proofs.Afresh.{afresh_valid}
use Rattle.book_history.proofs.Holds.{Holds, holds_stands, holds_length, holds_insert, holds_without, holds_book, afresh_holds}

-- ---- the numbers

pub holds_full : (f : Form) (list : List Sub) (s : List Rec) → Holds f list s → full s ≡ full_of list
unfolding full full_of
holds_full f list s h = ap (leb 4096) (holds_length f list s h)

module _ (f : Form) (l : FormLaws f) (list : List Sub) (w : List ℕ) (a : Afresh f list w) where
  same_add : (place client wish : ℕ) → add_says f w place client wish ≡ number list (adds place client wish)
  unfolding add_says number
  same_add place client wish = by (bad_place place) refl
    where
      by : (b : Bool) → bad_place place ≡ b → add_says f w place client wish ≡ number list (adds place client wish)
      by true e = simp (a.keeps, e)
      by false e =
          simp (a.keeps, e, holds_stands f place client e list (recs w) (afresh_holds f l list w a), holds_full f list (recs w) (afresh_holds f l list w a))

  same_remove : (place client : ℕ) → remove_says f w place client ≡ number list (removes place client)
  unfolding remove_says number
  same_remove place client = by (bad_place place) refl
    where
      by : (b : Bool) → bad_place place ≡ b → remove_says f w place client ≡ number list (removes place client)
      by true e = simp (a.keeps, e)
      by false e = simp (a.keeps, e, holds_stands f place client e list (recs w) (afresh_holds f l list w a))

  -- the number that an edit gets is the one that what stands gives
  pub afresh_answers : (e : Edit) → answer f w e ≡ number list e
  unfolding answer
  afresh_answers (adds place client wish) = same_add place client wish
  afresh_answers (removes place client) = same_remove place client

-- ---- what is left

-- what is granted goes over, and a refusal leaves both as they were
over : (f : Form) (list : List Sub) (w : List ℕ) → Afresh f list w → (s : Said (Unit {0})) (then : List Sub → List Sub) (book : List ℕ → List ℕ)
    → (s ≡ granted tt → Afresh f (then list) (book w)) → Afresh f (leaves (λ u. then) s list) (leaves (λ u. book) s w)
over f list w a (granted u) then book k = k refl
over f list w a (refused n) then book k = a
over f list w a (refused_at n i) then book k = a

module _ (f : Form) (l : FormLaws f) (list : List Sub) (w : List ℕ) (a : Afresh f list w) where
  granted_add : (place client wish : ℕ) → add_says f w place client wish ≡ granted tt → Afresh f (sub place client wish ∷ list) (added f place client wish w)
  unfolding added
  granted_add place client wish e =
      let o : AddOpen f w place client wish = add_open f w place client wish e in
      let h : Holds f list (recs w) = afresh_holds f l list w a in
      let range : InRange (sub place client wish) = record { place = o.place_ok; client = o.client_ok; wish = o.wish_ok } in
      let free : stands_in place client list ≡ false = sym (holds_stands f place client o.place_ok list (recs w) h) ∙ o.free in
      let room : length (sub place client wish ∷ list) ≤ 4096 = omega (arith, not_full (recs w) o.room, holds_length f list (recs w) h) in
      let one_more = holds_insert f l place client wish range list (recs w) h free in
      holds_book f l (sub place client wish ∷ list) (insert f (rec_of f place client wish) (recs w)) one_more room

  granted_remove : (place client : ℕ) → remove_says f w place client ≡ granted tt
      → Afresh f (keep (λ x. not (is_pair place client x)) list) (removed f place client w)
  unfolding removed
  granted_remove place client e =
      let few : length list ≤ 4096 = (afresh_valid f l list w a).few in
      let h : Holds f list (recs w) = afresh_holds f l list w a in
      let rest : Sub → Bool = λ x. not (is_pair place client x) in
      let one_less = holds_without f place client (remove_open f w place client e).place_ok list (recs w) h in
      holds_book f l (keep rest list) (without f place client (recs w)) one_less (omega (arith, length_keep rest list, tally_le rest list))

  pub afresh_edited : (e : Edit) → Afresh f (leaves (λ u. effect e) (number list e) list) (edited f w e)
  unfolding edited
  afresh_edited (adds place client wish) =
      rw (← same_add f l list w a place client wish)
      (over f list w a (add_says f w place client wish) (effect (adds place client wish)) (added f place client wish) (granted_add place client wish))
  afresh_edited (removes place client) =
      rw (← same_remove f l list w a place client)
      (over f list w a (remove_says f w place client) (effect (removes place client)) (removed f place client) (granted_remove place client))

-- ---- a run

module _ (f : Form) (l : FormLaws f) where
  pub afresh_after : (run : List Edit) (list : List Sub) (w : List ℕ) → Afresh f list w → Afresh f (standing_from list run) (after f w run)
  unfolding standing_from after
  afresh_after [] list w a = a
  afresh_after (e ∷ run) list w a =
      afresh_after run (leaves (λ u. effect e) (number list e) list) (edited f w e) (afresh_edited f l list w a e)
