-- Subscriptions in range and with no pair twice are told by tallies alone, so a list with the same tallies is valid too.
use mathlib.Core.Path.{◌≡◌, refl, sym, ap, ◌∙◌}
use mathlib.Core.Bool.{Bool, true, false, ◌||◌}
use mathlib.Core.List.{List, [], ◌∷◌}
use Prim.Native.Nat.{ℕ, ◌+◌, ◌≤◌}
use native.Mathlib.Omega.{arith}
use borrow.Author.Tests.{eq-eqb, eqb-true}
use lib.Dec.{eqb}
use Rattle.laws.specs.Lists.{tally, one}
use Rattle.laws.proofs.Tests.{and_l, and_r, or_l, or_r}
use Rattle.laws.proofs.Counting.{tally_true, one_none}
use Rattle.place.specs.FirstWord.{bad_place}
use Rattle.book_rules.specs.Form.{bad_client, bad_wish}
use Rattle.book_rules.specs.Subscription.{Sub, is_pair, InRange}
use Rattle.book_rules.specs.Afresh.{Apart, none, more, Valid}

-- out of range in some way
abbrev pub outside : Sub → Bool
outside x = bad_place x.place || (bad_client x.client || bad_wish x.wish)

inside : (x : Sub) → InRange x → outside x ≡ false
inside x r = simp (r.place, r.client, r.wish)

pub in_range : (x : Sub) → outside x ≡ false → InRange x
in_range x e =
    let p : Bool = bad_place x.place in
    let c : Bool = bad_client x.client in
    let v : Bool = bad_wish x.wish in
    let k = or_r p (c || v) e in
    record { place = or_l p (c || v) e; client = or_l c v k; wish = or_r c v k }

pub pair_refl : (x : Sub) → is_pair x.place x.client x ≡ true
pair_refl x = rw (eq-eqb x.place x.place refl) (eq-eqb x.client x.client refl)

-- ---- from the list to the tallies

pub apart_inside : {list : List Sub} → Apart list → tally outside list ≡ 0
unfolding tally
apart_inside none = refl
apart_inside (more {x} {list} r n k) = rw (inside x r) (omega (arith, apart_inside k))

-- a pair stands at most once
pub apart_once : (place client : ℕ) {list : List Sub} → Apart list → tally (is_pair place client) list ≤ 1
unfolding tally
apart_once place client none = omega arith
apart_once place client (more {x} {list} r n k) = by (is_pair place client x) refl (apart_once place client k)
  where
    by : (b : Bool) → is_pair place client x ≡ b → tally (is_pair place client) list ≤ 1 → one b + tally (is_pair place client) list ≤ 1
    by true e h =
        let p : x.place ≡ place = eqb-true x.place place (and_l (eqb x.place place) (eqb x.client client) e) in
        let c : x.client ≡ client = eqb-true x.client client (and_r (eqb x.place place) (eqb x.client client) e) in
        let z : tally (is_pair place client) list ≡ 0 =
        ap (λ (m : ℕ). tally (is_pair m client) list) (sym p) ∙ ap (λ (m : ℕ). tally (is_pair x.place m) list) (sym c) ∙ n in
        omega arith
    by false e h = omega arith

-- ---- from the tallies to the list

apart_from : (list : List Sub) → tally outside list ≡ 0 → ((place client : ℕ) → tally (is_pair place client) list ≤ 1) → Apart list
unfolding tally
apart_from [] e h = none
apart_from (x ∷ list) e h =
    let k = h x.place x.client in
    let z = ap one (pair_refl x) in
    let once : tally (is_pair x.place x.client) list ≡ 0 = omega arith in
    more (in_range x (one_none (outside x) (tally outside list) e)) once
    (apart_from list (omega arith) (λ place client. let m = h place client in omega arith))

-- ---- so it goes over to a list with the same tallies

pub valid_over : (a b : List Sub) → ((t : Sub → Bool) → tally t a ≡ tally t b) → Valid a → Valid b
valid_over a b e v = record {
  apart =
      apart_from b (sym (e outside) ∙ apart_inside v.apart)
      (λ place client. let k = apart_once place client v.apart in let z = e (is_pair place client) in omega arith);
  few = let k = v.few in let z = e (λ x. true) in omega (arith, tally_true a, tally_true b);
}
