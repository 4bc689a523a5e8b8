-- Those still to be added and those that stand fit together at each turn, so each is granted; and what is granted is held.
use mathlib.Core.Path.{◌≡◌, sym, ap, ◌∙◌}
use mathlib.Core.Bool.{false}
use mathlib.Core.List.{List, [], ◌∷◌}
use Prim.Native.Nat.{ℕ, ◌+◌, ◌≤◌}
use native.Mathlib.Omega.{arith}
use borrow.Author.Tests.{le-ltb, lt-leb}
use lib.Dec.{leb}
use lib.ListN.{length}
use Rattle.laws.specs.Order.{granted}
use Rattle.laws.specs.Lists.{tally, one, some}
use Rattle.laws.proofs.Counting.{some_tally, one_none}
use Rattle.book_rules.specs.Form.{Form, FormLaws}
use Rattle.book_rules.specs.Rules.{empty}
use Rattle.book_rules.specs.Subscription.{Sub, how_often, is_pair, InRange}
use Rattle.book_rules.specs.Afresh.{subs, Afresh, Valid}
use Rattle.book_rules.specs.History.{answer, edited, after, book_after, stands_in, full_of, number}
use Rattle.book_history.specs.Adding.{addition, additions, AllGranted, none, more}
use Rattle.book_history.proofs.Ranges.{outside, in_range, pair_refl, apart_inside, apart_once}
use Rattle.book_history.proofs.Afresh.{empty_afresh}
use Rattle.book_history.proofs.Run.{afresh_answers, afresh_edited, afresh_after}

-- ---- what is granted holds the items

module _ (f : Form) (l : FormLaws f) where
  -- a granted addition puts its subscription to those that stood
  one_more : (base : List Sub) (w : List ℕ) (y : Sub) → Afresh f base w → answer f w (addition y) ≡ granted tt → Afresh f (y ∷ base) (edited f w (addition y))
  one_more base w y a e =
      let n : number base (addition y) ≡ granted tt = sym (afresh_answers f l base w a (addition y)) ∙ e in
      rw n at (afresh_edited f l base w a (addition y))

  added_times : (list base : List Sub) (w : List ℕ) → Afresh f base w → AllGranted f w (additions list)
      → (x : Sub) → how_often x (subs f (after f w (additions list))) ≡ how_often x list + how_often x base
  unfolding how_often tally after
  added_times [] base w a none x = a.exactly x ∙ omega arith
  added_times (y ∷ list) base w a (more e k) x =
      let i = added_times list (y ∷ base) (edited f w (addition y)) (one_more base w y a e) k x in
      omega arith

  pub added_afresh : (list : List Sub) → AllGranted f empty (additions list) → Afresh f list (book_after f (additions list))
  unfolding book_after how_often tally
  added_afresh list k = record {
    keeps = (afresh_after f l (additions list) [] empty (empty_afresh f l)).keeps;
    exactly = λ x. added_times list [] empty (empty_afresh f l) k x ∙ omega arith;
  }

-- ---- what could stand together is granted

-- those still to be added, and those that stand already
record Fits (list base : List Sub) : Type 0 where
  inside : tally outside list ≡ 0
  once : (place client : ℕ) → tally (is_pair place client) list + tally (is_pair place client) base ≤ 1
  few : length list + length base ≤ 4096

fits_more : (y : Sub) (list base : List Sub) → Fits (y ∷ list) base → Fits list (y ∷ base)
unfolding tally
fits_more y list base h = record {
  inside = let k = h.inside in omega arith;
  once = λ place client. let k = h.once place client in omega arith;
  few = let k = h.few in omega arith;
}

number_granted : (base : List Sub) (y : Sub) → InRange y → stands_in y.place y.client base ≡ false → full_of base ≡ false
    → number base (addition y) ≡ granted tt
unfolding number
number_granted base y r free room = simp (r.client, r.place, r.wish, free, room)

fits_number : (y : Sub) (list base : List Sub) → Fits (y ∷ list) base → number base (addition y) ≡ granted tt
unfolding tally stands_in full_of
fits_number y list base h =
    let k = h.once y.place y.client in
    let z = ap one (pair_refl y) in
    let free : some (is_pair y.place y.client) base ≡ false =
    some_tally (is_pair y.place y.client) base ∙ le-ltb 0 (tally (is_pair y.place y.client) base) (omega arith) in
    let room : leb 4096 (length base) ≡ false = lt-leb 4096 (length base) (let m = h.few in omega arith) in
    number_granted base y (in_range y (one_none (outside y) (tally outside list) h.inside)) free room

module _ (f : Form) (l : FormLaws f) where
  in_turn : (list base : List Sub) (w : List ℕ) → Afresh f base w → Fits list base → AllGranted f w (additions list)
  in_turn [] base w a h = none
  in_turn (y ∷ list) base w a h =
      let e : answer f w (addition y) ≡ granted tt = afresh_answers f l base w a (addition y) ∙ fits_number y list base h in
      more e (in_turn list (y ∷ base) (edited f w (addition y)) (one_more f l base w y a e) (fits_more y list base h))

  pub together_granted : (list : List Sub) → Valid list → AllGranted f empty (additions list)
  unfolding tally
  together_granted list v =
      in_turn list [] empty (empty_afresh f l)
      (record {
        inside = apart_inside v.apart;
        once = λ place client. let k = apart_once place client v.apart in omega arith;
        few = let k = v.few in omega arith;
      })
