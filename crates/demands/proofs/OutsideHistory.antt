-- A run of calls from outside, call by call: each leaves the book of what then stands, and answers by what stood.
use Prim.Native.Nat.{ℕ}
use mathlib.Core.Path.{◌≡◌, refl, sym, ap, ◌∙◌}
use mathlib.Core.Bool.{true}
use mathlib.Core.List.{List, [], ◌∷◌}
use Rattle.laws.specs.Order.{Said, granted, refused, refused_at, passes}
use Rattle.laws.proofs.Order.{no_number, passes_rows, passes_next, passes_more}
use Rattle.laws.proofs.Tests.{impossible}
use Rattle.book_rules.specs.Form.{form}
use Rattle.book_rules.specs.Rules.{empty}
use Rattle.book_rules.specs.Subscription.{Sub}
use Rattle.book_rules.specs.Load.{items, load_says}
use Rattle.book_rules.specs.Afresh.{subs, Afresh}
use Rattle.book_rules.specs.History.{Edit, adds, removes, answer, edited, edit_rows, number, effect}
use Rattle.book_rules.proofs.Form.{form_laws}
use Rattle.book_history.specs.Adding.{additions}
use Rattle.book_history.proofs.Run.{afresh_answers, afresh_edited}
use Rattle.book_history.proofs.Afresh.{empty_afresh, good_afresh, one_book}
use Rattle.refusals.specs.Refusals.{number_of}
use Rattle.c_answers.specs.Answer.{capped, in_halves, bare, number_in, size_or_index_in, size_or_index_of}
use Rattle.c_answers.proofs.Packs.{bare_again}
use Rattle.demands.specs.Changes.{Change, edits, loads, numbers, load_number, stood_from, stood}
use Rattle.demands.specs.OutsideCalls.{CalledOutside, none, add, remove, load, Callable}
use Rattle.demands.specs.OutsideDemands.{Answers, OutsideHistory}
use Rattle.demands.proofs.Numbered.{is_low, low_numbered}
use Rattle.demands.proofs.Outside.{tells_of}
use Rattle.demands.proofs.Changes.{load_is, load_leaves}

-- ---- what is left

called_afresh : (run : List Change) (list : List Sub) (w z : List ℕ) → Afresh form list w → CalledOutside w run z → Afresh form (stood_from list run) z
unfolding stood_from edited
called_afresh [] list w z a none = a
called_afresh (edits (adds place client wish) ∷ run) list w z a (add {u = u} p c) =
    called_afresh run _ u z (rw p.space (afresh_edited form form_laws list w a (adds place client wish))) c
called_afresh (edits (removes place client) ∷ run) list w z a (remove {u = u} p c) =
    called_afresh run _ u z (rw p.space (afresh_edited form form_laws list w a (removes place client))) c
called_afresh (loads words ∷ run) list w z a (load {u = u} p c) =
    called_afresh run _ u z (rw p.space (load_leaves w words a.keeps list a)) c

pub left_afresh : (run : List Change) (book : List ℕ) → CalledOutside empty run book → Afresh form (stood run) book
unfolding stood
left_afresh run book c = called_afresh run [] empty book (empty_afresh form form_laws) c

any_run : (run : List Change) (w : List ℕ) → Callable w run
any_run [] w = record { left = w; called = none }
any_run (edits (adds place client wish) ∷ run) w =
    let k = any_run run _ in
    record { left = k.left; called = add (record { says = refl; space = refl }) k.called }
any_run (edits (removes place client) ∷ run) w =
    let k = any_run run _ in
    record { left = k.left; called = remove (record { says = refl; space = refl }) k.called }
any_run (loads words ∷ run) w =
    let k = any_run run _ in
    record { left = k.left; called = load (record { says = refl; space = refl }) k.called }

-- ---- what is answered: a number from 1 to 22 with no index, or 0

number_plain : (list : List Sub) (e : Edit) → passes is_low no_number (number list e) ≡ true
unfolding number
number_plain list (adds place client wish) = passes_rows is_low no_number (edit_rows list (adds place client wish)) (granted tt) refl refl
number_plain list (removes place client) = passes_rows is_low no_number (edit_rows list (removes place client)) (granted tt) refl refl

numbers_plain : (run : List Edit) (list : List Sub) → passes is_low no_number (numbers list run) ≡ true
unfolding numbers
numbers_plain [] list = refl
numbers_plain (e ∷ run) list =
    passes_next is_low no_number (number list e) (λ u. numbers (effect e list) run) (number_plain list e) (λ u. numbers_plain run (effect e list))

nothing_beside : (s : Said (Unit {0})) → passes is_low no_number s ≡ true → size_or_index_of (bare s) ≡ 0
nothing_beside (granted u) h = refl
nothing_beside (refused n) h = refl
nothing_beside (refused_at n i) h = impossible h

same_number : (s : Said (Unit {0})) → number_of (bare s) ≡ number_of s
same_number (granted u) = refl
same_number (refused n) = refl
same_number (refused_at n i) = refl

answers : (s : Said (Unit {0})) (r : ℕ) → passes is_low no_number s ≡ true → r ≡ in_halves (bare s) → Answers s r
answers s r h e =
    let low = passes_more is_low no_number is_low is_low (λ n k. k) (λ n k. impossible k) s h in
    let t = tells_of s (λ u. 0) (low_numbered s low) in
    record {
      number = ap number_in e ∙ t.number ∙ same_number s;
      size_or_index = ap size_or_index_in e ∙ t.size_or_index ∙ ap capped (nothing_beside s h);
    }

module _ (run : List Change) (book : List ℕ) (c : CalledOutside empty run book) where
  edit_answers : (e : Edit) (r : ℕ) → r ≡ in_halves (bare (answer form book e)) → Answers (number (stood run) e) r
  edit_answers e r p =
      answers (number (stood run) e) r (number_plain (stood run) e)
      (p ∙ ap (λ (s : Said (Unit {0})). in_halves (bare s)) (afresh_answers form form_laws (stood run) book (left_afresh run book c) e))

  load_answers : (words : List ℕ) (r : ℕ) → r ≡ in_halves (bare (load_says form book words)) → Answers (load_number words) r
  unfolding load_number
  load_answers words r p =
      answers (load_number words) r (numbers_plain (additions (items words)) [])
      (p ∙ ap in_halves (sym (bare_again (load_says form book words)) ∙ ap bare (load_is book words (left_afresh run book c).keeps)))

pub outside_history : OutsideHistory
unfolding answer
outside_history = record {
  any_run = λ w run. any_run run w;
  history = left_afresh;
  equals = λ run book fresh c a. one_book form form_laws (stood run) (stood run) book fresh (λ x. refl) (left_afresh run book c) a;
  history_from = λ w run book g c. called_afresh run (subs form w) w book (good_afresh form w g) c;
  add_answers = λ run book place client wish r left c p. edit_answers run book c (adds place client wish) r p.says;
  remove_answers = λ run book place client r left c p. edit_answers run book c (removes place client) r p.says;
  load_answers = λ run book words r left c p. load_answers run book c words r p.says;
}
