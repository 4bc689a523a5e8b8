-- A granted edit is one for which no row holds; it leaves the layout of sound records, and that is a good book with just those.
use mathlib.Core.Path.{◌≡◌, refl, sym, ap, ◌∙◌}
use mathlib.Core.Bool.{Bool, true, false, not}
use mathlib.Core.List.{List, ◌∷◌, ◌++◌}
use Prim.Native.Nat.{ℕ, ◌+◌, ◌≤◌, ◌<◌}
use native.Mathlib.Omega.{arith}
use borrow.Author.Tests.{leb-false, lt-leb}
use lib.ListN.{length, take, drop, take-append-drop}
use Rattle.laws.specs.Order.{granted, Quiet, none, more}
use Rattle.laws.specs.Lists.{tally, one}
use Rattle.laws.proofs.Tests.{not_not}
use Rattle.laws.proofs.Order.{granted_quiet, said_last}
use Rattle.laws.proofs.Tally.{tally_append}
use Rattle.laws.proofs.Counting.{tally_true}
use Rattle.place.specs.FirstWord.{bad_place}
use Rattle.book_rules.specs.Form.{Form, FormLaws, bad_client, bad_wish}
use Rattle.book_rules.specs.Rules.{Rec, recs, good}
use Rattle.book_rules.specs.Edits.{rec_of, stands, full, add_rows, add_says, insert, ahead, added, remove_rows, remove_says, without, removed}
use Rattle.book_rules.proofs.Laid.{length_recs}
use Rattle.book_rules.proofs.Good.{good_says}
use Rattle.book_rules.proofs.Sound.{Sound}
use Rattle.book_rules.proofs.Whole.{good_sound, recs_layout, layout_good}
use Rattle.book_rules.proofs.Ranks.{insert_fresh, length_without, without_sound}

-- ---- a call that is granted is one for which no row holds

pub record AddOpen (f : Form) (w : List ℕ) (place client wish : ℕ) : Type 0 where
  pub keeps : good f w ≡ true
  pub client_ok : bad_client client ≡ false
  pub place_ok : bad_place place ≡ false
  pub wish_ok : bad_wish wish ≡ false
  pub free : stands f place client (recs w) ≡ false
  pub room : full (recs w) ≡ false

pub record RemoveOpen (f : Form) (w : List ℕ) (place client : ℕ) : Type 0 where
  pub keeps : good f w ≡ true
  pub client_ok : bad_client client ≡ false
  pub place_ok : bad_place place ≡ false
  pub there : stands f place client (recs w) ≡ true

module _ (f : Form) (w : List ℕ) (place client : ℕ) where
  pub add_open : (wish : ℕ) → add_says f w place client wish ≡ granted tt → AddOpen f w place client wish
  unfolding add_says
  add_open wish e = by (granted_quiet (add_rows f w place client wish) tt tt (refl, (refl, (refl, (refl, (refl, (refl, tt)))))) e)
    where
      by : Quiet (add_rows f w place client wish) → AddOpen f w place client wish
      by (more g (more c (more p (more v (more s (more n none)))))) = record {
        keeps = not_not (good f w) g;
        client_ok = c;
        place_ok = p;
        wish_ok = v;
        free = s;
        room = n;
      }

  pub add_granted : (wish : ℕ) → AddOpen f w place client wish → add_says f w place client wish ≡ granted tt
  unfolding add_says
  add_granted wish o =
      said_last (add_rows f w place client wish) (granted tt)
      (more (ap not o.keeps) (more o.client_ok (more o.place_ok (more o.wish_ok (more o.free (more o.room none))))))

  pub remove_open : remove_says f w place client ≡ granted tt → RemoveOpen f w place client
  unfolding remove_says
  remove_open e = by (granted_quiet (remove_rows f w place client) tt tt (refl, (refl, (refl, (refl, tt)))) e)
    where
      by : Quiet (remove_rows f w place client) → RemoveOpen f w place client
      by (more g (more c (more p (more s none)))) = record {
        keeps = not_not (good f w) g;
        client_ok = c;
        place_ok = p;
        there = not_not (stands f place client (recs w)) s;
      }

  pub remove_granted : RemoveOpen f w place client → remove_says f w place client ≡ granted tt
  unfolding remove_says
  remove_granted o =
      said_last (remove_rows f w place client) (granted tt)
      (more (ap not o.keeps) (more o.client_ok (more o.place_ok (more (ap not o.there) none))))

-- ---- a record put in among others

module _ (f : Form) where
  pub tally_insert : (p : Rec → Bool) (r : Rec) (s : List Rec) → tally p (insert f r s) ≡ one (p r) + tally p s
  unfolding insert tally
  tally_insert p r s =
      let k = ahead f s r in
      let a = tally_append p (take k s) (r ∷ drop k s) in
      let b = tally_append p (take k s) (drop k s) in
      let c : tally p (take k s ++ drop k s) ≡ tally p s = ap (tally p) (take-append-drop k s) in
      omega (arith, a, b)

  pub length_insert : (r : Rec) (s : List Rec) → length (insert f r s) ≡ 1 + length s
  length_insert r s = sym (tally_true (insert f r s)) ∙ tally_insert (λ q. true) r s ∙ ap (λ (m : ℕ). 1 + m) (tally_true s)

pub not_full : (s : List Rec) → full s ≡ false → length s < 4096
unfolding full
not_full s e = leb-false 4096 (length s) e

pub room_left : (s : List Rec) → length s < 4096 → full s ≡ false
unfolding full
room_left s e = lt-leb 4096 (length s) e

-- ---- an addition

module _ (f : Form) (l : FormLaws f) (w : List ℕ) (place client wish : ℕ) (o : AddOpen f w place client wish) where
  pub insert_open : Sound f 0 (insert f (rec_of f place client wish) (recs w))
  insert_open =
      insert_fresh f l place client wish (recs w) o.client_ok o.place_ok o.wish_ok (good_sound f l w (good_says f w o.keeps)) o.free

  insert_few : length (insert f (rec_of f place client wish) (recs w)) ≤ 4096
  insert_few = omega (arith, length_insert f (rec_of f place client wish) (recs w), not_full (recs w) o.room)

  pub recs_added : recs (added f place client wish w) ≡ insert f (rec_of f place client wish) (recs w)
  unfolding added
  recs_added = recs_layout f (insert f (rec_of f place client wish) (recs w)) insert_open insert_few

  pub added_good : good f (added f place client wish w) ≡ true
  unfolding added
  added_good = layout_good f (insert f (rec_of f place client wish) (recs w)) insert_open l insert_few

-- ---- a removal

module _ (f : Form) (l : FormLaws f) (w : List ℕ) (place client : ℕ) (keeps : good f w ≡ true) where
  h : Sound f 0 (recs w)
  h = good_sound f l w (good_says f w keeps)

  few : length (without f place client (recs w)) ≤ 4096
  few = let g = (good_says f w keeps).few in omega (arith, length_without f place client (recs w), length_recs w)

  pub recs_removed : recs (removed f place client w) ≡ without f place client (recs w)
  unfolding removed
  recs_removed = recs_layout f (without f place client (recs w)) (without_sound f 0 place client (recs w) h) few

  pub removed_good : good f (removed f place client w) ≡ true
  unfolding removed
  removed_good = layout_good f (without f place client (recs w)) (without_sound f 0 place client (recs w) h) l few
