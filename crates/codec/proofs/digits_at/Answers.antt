-- What the bytes that are left say, from the number so far, is what all of them say.
use Prim.Native.Nat.{ℕ, ◌+◌, ◌-◌, ◌*◌, ◌^◌, ◌≤◌, ◌<◌}
use mathlib.Core.Path.{◌≡◌, refl, sym, ap, ◌∙◌}
use mathlib.Core.Bool.{true, false}
use mathlib.Core.List.{List, [], ◌∷◌}
use mathlib.Core.Logic.{⊎_elim}
use native.Mathlib.Nat.{pow-suc}
use native.Mathlib.Numerals.{add-one}
use native.Mathlib.Omega.{arith}
use lib.ListN.{length, get_or, take, drop, length-drop}
use lib.Seq.{drop-cons, drop-length, take_all}
use Rattle.laws.specs.Lists.{every}
use Rattle.laws.specs.Numbers.{digit, dec_from, within}
use Rattle.laws.proofs.Tests.{within_lo, within_hi}
use Rattle.codec.proofs.Numbers.{too_wide, too_short, not_digits, a_number}
use Rattle.codec.proofs.digits_at.Invariants.{Left, small}
use Rattle.codec.proofs.digits_at.Goals as goal

-- the bytes that are looked at
part_is : (t g b : List ℕ) (at w : ℕ) → at ≤ length t → g ≡ take (length t - at) (drop at t) → b ≡ take (w - 0) g → b ≡ take w (drop at t)
part_is t g b at w h e f =
    let z : w - 0 ≡ w = omega arith in
    let all : g ≡ drop at t = e ∙ take_all (length t - at) (drop at t) (omega (arith, length-drop at t)) in
    rw z at f ∙ ap (take w) all

-- the next byte is a digit, or it is not
module _ (b : List ℕ) (n k : ℕ) (h : k < length b) (l : Left b n k) where
  cut : drop k b ≡ get_or b k 0 ∷ drop (k + 1) b
  cut = drop-cons b k 0 h ∙ rw add-one

  turn_good : within 48 57 (get_or b k 0) ≡ true → Left b (n * 10 + (get_or b k 0 - 48)) (k + 1)
  turn_good d = record {
    low = omega arith;
    small = omega (arith, l.small, ap (λ (m : ℕ). 10 ^ m) (add-one k), pow-suc 10 k, within_lo 48 57 (get_or b k 0) d, within_hi 48 57 (get_or b k 0) d);
    all = sym (ap (every digit) cut ∙ simp d) ∙ l.all;
    dec = sym (ap (dec_from n) cut) ∙ l.dec;
  }

  turn_bad : within 48 57 (get_or b k 0) ≡ false → every digit b ≡ false
  turn_bad d = sym l.all ∙ ap (every digit) cut ∙ simp d

done : (b : List ℕ) (n k : ℕ) → length b ≤ k → Left b n k → (every digit b ≡ true) × (dec_from 0 b ≡ n)
done b n k h l =
    let z : k ≡ length b = omega (arith, l.low) in
    let q : drop k b ≡ [] = ap (λ (m : ℕ). drop m b) z ∙ drop-length b in
    (sym l.all ∙ ap (every digit) q, sym l.dec ∙ ap (dec_from n) q)

pub returns-then-width-gt9 : goal.returns-then-width-gt9
returns-then-width-gt9 c = record { says = too_wide _ _ _ (omega arith) }

pub returns-in_err-get : goal.returns-in_err-get
returns-in_err-get c =
    let a = c.args in
    let short : length a.text.now < a.at + a.width = ⊎_elim (λ (h : length a.text.now < a.at). omega arith) (λ (h : length a.text.now < length a.text.now). omega arith) c.in_err-get.ensures.lookup.0 in
    rw c.from_residual.ensures (record { says = too_short _ _ _ short })

pub returns-in_err-b-items : goal.returns-in_err-b-items
returns-in_err-b-items c =
    let a = c.args in
    let g = c.in_ok-get in
    let q = g.ensures.lookup.0 in
    let short : length a.text.now < a.at + a.width =
    ⊎_elim (λ (h : a.width < 0). omega arith) (λ (h : length g.field-0.now < a.width). omega (arith, q.3)) c.in_err-b-items.ensures.lookup.0 in
    rw c.from_residual-in_err-b-items.ensures (record { says = too_short _ _ _ short })

pub loop-b-init : goal.loop-b-init
loop-b-init c = record { low = omega arith; small = omega arith; all = refl; dec = refl }

pub returns-then-not-between : goal.returns-then-not-between
returns-then-not-between c =
    let a = c.args in
    let q = c.in_ok-get.ensures.lookup.0 in
    let p = part_is a.text.now _ _ a.at a.width q.0 q.2 c.in_ok-b-items.ensures.lookup.0.2 in
    let d : within 48 57 (get_or c.in_ok-b-items.b-items.now c.loop-b.b-index 0) ≡ false = sym c.between.ensures.says ∙ c.if-not-between.true in
    record { says = not_digits _ _ _ (ap (every digit) (sym p) ∙ turn_bad _ _ _ c.loop-b-test.true c.loop-b.invariant d) }

pub overflow_mul-n : goal.overflow_mul-n
overflow_mul-n c =
    let l = c.loop-b in
    omega (arith, small l.b-index c.args.width l.n (omega (arith, c.loop-b-test.true, c.in_ok-b-items.ensures.lookup.0.3)) (omega arith) l.invariant.small)

pub overflow_add-n : goal.overflow_add-n
overflow_add-n c =
    let l = c.loop-b in
    let x = get_or c.in_ok-b-items.b-items.now l.b-index 0 in
    let d : within 48 57 x ≡ true = sym c.between.ensures.says ∙ c.if-not-between.false in
    let few = small l.b-index c.args.width l.n (omega (arith, c.loop-b-test.true, c.in_ok-b-items.ensures.lookup.0.3)) (omega arith) l.invariant.small in
    omega (arith, c.from.ensures, within_lo 48 57 x d, within_hi 48 57 x d, few)

pub loop-b-preserved : goal.loop-b-preserved
loop-b-preserved c = rw c.from.ensures (turn_good _ _ _ c.loop-b-test.true c.loop-b.invariant (sym c.between.ensures.says ∙ c.if-not-between.false))

pub returns : goal.returns
returns c =
    let a = c.args in
    let q = c.in_ok-get.ensures.lookup.0 in
    let p = part_is a.text.now _ _ a.at a.width q.0 q.2 c.in_ok-b-items.ensures.lookup.0.2 in
    let d = done _ _ _ c.loop-b-test.false c.loop-b.invariant in
    record { says = a_number a.text.now a.at a.width _ (omega arith) (omega (arith, q.3, c.in_ok-b-items.ensures.lookup.0.1)) (ap (every digit) (sym p) ∙ d.0) (ap (dec_from 0) (sym p) ∙ d.1) }
