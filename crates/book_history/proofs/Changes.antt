-- A granted edit changes the number of records or whether a pair stands; client 7 may be added; over a book that is not good nothing is.
use mathlib.Core.Path.{◌≡◌, refl, sym, ap, ◌∙◌}
use mathlib.Core.Bool.{Bool, true, false, ◌&&◌, not}
use mathlib.Core.List.{List, [], ◌∷◌}
use Prim.Native.Nat.{ℕ, ◌+◌}
use native.Mathlib.Omega.{arith}
use lib.Dec.{ltb}
use lib.ListN.{length}
use Rattle.laws.specs.Order.{granted, refused}
use Rattle.laws.specs.Lists.{tally, keep}
use Rattle.laws.proofs.Tests.{no_both}
use Rattle.laws.proofs.Counting.{some_tally, tally_keep}
use Rattle.place.specs.FirstWord.{bad_place}
use Rattle.book_rules.specs.Form.{Form, FormLaws, bad_client, bad_wish}
use Rattle.book_rules.specs.Rules.{Rec, recs, good, empty}
use Rattle.book_rules.specs.Edits.{rec_of, is_for, stands, add_says, added, remove_says, removed, without}
use Rattle.book_rules.specs.History.{Edit, adds, removes, answer, edited, after, stands_in, full_of, number}
use Rattle.book_rules.proofs.Edited.{add_open, remove_open, length_insert, recs_added, recs_removed}
use Rattle.book_history.proofs.Afresh.{empty_afresh}
use Rattle.book_history.proofs.Run.{afresh_answers}

-- ---- an addition adds a record, and a removal leaves none for its pair

add_changes : (f : Form) (l : FormLaws f) (w : List ℕ) (place client wish : ℕ) → add_says f w place client wish ≡ granted tt
    → added f place client wish w ≡ w → ⊥
add_changes f l w place client wish e q =
    let r : Rec = rec_of f place client wish in
    let n : length (recs w) ≡ 1 + length (recs w) =
    ap (λ (b : List ℕ). length (recs b)) (sym q)
    ∙ ap length (recs_added f l w place client wish (add_open f w place client wish e))
    ∙ length_insert f r (recs w) in
    omega arith

zero_both : (p : Rec → Bool) (s : List Rec) → tally (λ r. p r && not (p r)) s ≡ 0
unfolding tally
zero_both p [] = refl
zero_both p (r ∷ s) = rw (never (p r)) (omega (arith, zero_both p s))
  where
    never : (b : Bool) → b && not b ≡ false
    never true = refl
    never false = refl

none_for : (f : Form) (place client : ℕ) (s : List Rec) → stands f place client (without f place client s) ≡ false
unfolding stands without
none_for f place client s =
    some_tally (is_for f place client) (keep (λ r. not (is_for f place client r)) s)
    ∙ ap (ltb 0) (tally_keep (is_for f place client) (λ r. not (is_for f place client r)) s ∙ zero_both (is_for f place client) s)

remove_changes : (f : Form) → FormLaws f → (w : List ℕ) (place client : ℕ) → remove_says f w place client ≡ granted tt
    → removed f place client w ≡ w → ⊥
remove_changes f l w place client e q =
    let o = remove_open f w place client e in
    no_both (stands f place client (recs w)) o.there
    (ap (λ (b : List ℕ). stands f place client (recs b)) (sym q)
    ∙ ap (stands f place client) (recs_removed f l w place client o.keeps)
    ∙ none_for f place client (recs w))

pub changes : (f : Form) (l : FormLaws f) (w : List ℕ) (e : Edit) → answer f w e ≡ granted tt → edited f w e ≡ w → ⊥
unfolding answer edited
changes f l w (adds place client wish) e q = add_changes f l w place client wish e (rw e at q)
changes f l w (removes place client) e q = remove_changes f l w place client e (rw e at q)

-- ---- client 7 may watch place 039051 for class 1

free : number [] (adds 39051 7 1) ≡ granted tt
unfolding number stands_in full_of bad_client bad_place bad_wish
free = refl

pub some_addition : (f : Form) → FormLaws f → answer f empty (adds 39051 7 1) ≡ granted tt
some_addition f l = afresh_answers f l [] empty (empty_afresh f l) (adds 39051 7 1) ∙ free

-- ---- a book that is not good

pub bad_answer : (f : Form) (w : List ℕ) → good f w ≡ false → (e : Edit) → answer f w e ≡ refused 16
unfolding answer add_says remove_says
bad_answer f w g (adds place client wish) = rw g
bad_answer f w g (removes place client) = rw g

bad_edited : (f : Form) (w : List ℕ) → good f w ≡ false → (e : Edit) → edited f w e ≡ w
unfolding edited add_says remove_says
bad_edited f w g (adds place client wish) = rw g
bad_edited f w g (removes place client) = rw g

pub bad_after : (f : Form) (w : List ℕ) → good f w ≡ false → (run : List Edit) → after f w run ≡ w
unfolding after
bad_after f w g [] = refl
bad_after f w g (e ∷ run) = ap (λ (b : List ℕ). after f b run) (bad_edited f w g e) ∙ bad_after f w g run
