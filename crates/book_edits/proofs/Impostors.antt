-- One addition to the empty book and its removal, worked out: what meets the promise neither refuses every edit nor only pretends.
use Prim.Native.Nat.{ℕ}
use Rattle.std.proofs.Common.{Result, Ok}
use mathlib.Core.List.{List, [], ◌∷◌}
use mathlib.Core.Path.{◌≡◌, refl, sym, ap, ◌∙◌}
use native.Mathlib.Omega.{arith}
use lib.ListN.{length}
use Rattle.laws.specs.Order.{Said, granted}
use Rattle.laws.specs.Space.{leaves}
use Rattle.laws.specs.Lists.{keep}
use Rattle.place.specs.FirstWord.{first_word, bad_place}
use Rattle.book_rules.specs.Form.{form, client_and_wish, bad_client, bad_wish}
use Rattle.book_rules.specs.Rules.{Rec, recs, empty, layout}
use Rattle.book_rules.specs.Edits.{rec_of, stands, add_says, insert, added, remove_says, without, removed}
use Rattle.book_rules.proofs.Form.{form_laws}
use Rattle.book_rules.proofs.Pairs.{insert_nil}
use Rattle.book_rules.proofs.Whole.{recs_layout, empty_layout}
use Rattle.book_rules.proofs.Edited.{AddOpen, add_granted, length_insert, recs_added, added_good, room_left, RemoveOpen, remove_granted}
use Rattle.refusals.specs.declared.Refusal.{Refusal}
use Rattle.refusals.proofs.NoChoice.{said_one}
use Rattle.book_edits.specs.Promise.{AddPromise, RemovePromise}
use Rattle.book_edits.proofs.Loads.{empty_good}

none_stand : recs empty ≡ []
none_stand = sym (ap recs empty_layout) ∙ recs_layout form [] tt (omega arith)

open_first : AddOpen form empty 39051 7 1
unfolding bad_client bad_wish bad_place stands
open_first = record {
  keeps = empty_good;
  client_ok = refl;
  place_ok = refl;
  wish_ok = refl;
  free = rw none_stand;
  room = room_left (recs empty) (rw none_stand (omega arith));
}

-- the first addition to an empty book is done, and one record then stands
pub adds_first : (r : Result (Unit {0}) Refusal) (left : List ℕ) → AddPromise empty 39051 7 1 r left → (r ≡ Ok tt) × (length (recs left) ≡ 1)
adds_first r left a =
    let q : add_says form empty 39051 7 1 ≡ granted tt = add_granted form empty 39051 7 1 open_first in
    let e : left ≡ added form 39051 7 1 empty = a.lent ∙ ap (λ (s : Said (Unit {0})). leaves (λ u. added form 39051 7 1) s empty) q in (
      said_one r (Ok tt) (a.says ∙ q),
      ap (λ (b : List ℕ). length (recs b)) e
          ∙ ap length (recs_added form form_laws empty 39051 7 1 open_first)
          ∙ length_insert form (rec_of form 39051 7 1) (recs empty)
          ∙ rw none_stand,
    )

-- ---- a removal of it

one_stands : recs (added form 39051 7 1 empty) ≡ rec_of form 39051 7 1 ∷ []
one_stands =
    recs_added form form_laws empty 39051 7 1 open_first
    ∙ ap (insert form (rec_of form 39051 7 1)) none_stand
    ∙ insert_nil form (rec_of form 39051 7 1)

open_last : RemoveOpen form (added form 39051 7 1 empty) 39051 7
unfolding bad_client bad_place stands form client_and_wish first_word
open_last = record {
  keeps = added_good form form_laws empty 39051 7 1 open_first;
  client_ok = refl;
  place_ok = refl;
  there = ap (stands form 39051 7) one_stands;
}

-- the removal of the one subscription that stands is done, and the book is then the empty one, in every word
pub removes_last : (r : Result (Unit {0}) Refusal) (left : List ℕ) → RemovePromise (added form 39051 7 1 empty) 39051 7 r left → (r ≡ Ok tt) × (left ≡ empty)
unfolding removed without keep form client_and_wish first_word
removes_last r left a =
    let w : List ℕ = added form 39051 7 1 empty in
    let q : remove_says form w 39051 7 ≡ granted tt = remove_granted form w 39051 7 open_last in (
      said_one r (Ok tt) (a.says ∙ q),
      a.lent
          ∙ ap (λ (s : Said (Unit {0})). leaves (λ u. removed form 39051 7) s w) q
          ∙ ap (λ (s : List Rec). layout (without form 39051 7 s)) one_stands
          ∙ empty_layout,
    )
