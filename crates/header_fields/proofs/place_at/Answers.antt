-- Each test that fails is a reason why no place stands there; where the digits and either mark do, the code is got.
use mathlib.Core.Path.{◌≡◌, sym, ap, ◌∙◌}
use Prim.Native.Nat.{ℕ, ◌+◌, ◌≤◌, ◌<◌}
use mathlib.Core.List.{List}
use mathlib.Core.Bool.{Bool, true, false, or-true}
use mathlib.Core.Logic.{⊎_elim}
use native.Mathlib.Omega.{arith}
use borrow.Author.Tests.{eq-eqb, ne_eqb, ltb-true, ltb-false}
use lib.Dec.{ltb}
use lib.ListN.{length, get_or, drop}
use Rattle.std.specs.Prelude.{Some, None, Ok, Err}
use Rattle.laws.proofs.Tests.{le_or_lt}
use Rattle.laws.proofs.Handed.{handed_or}
use Rattle.refusals.specs.declared.Refusal.TheVariants.{NoPlaceAt}
use Rattle.codec.specs.Codec.{fits, either}
use Rattle.codec.specs.Promise.{number_at}
use Rattle.codec.proofs.Fits.{short, bad, unmarked, good}
use Rattle.codec.proofs.Numbers.{number_is, number_none, number_inside}
use Rattle.codec.proofs.Stages.{step_no, step_yes}
use Rattle.header.specs.Header.{place, dash, plus}
use Rattle.header_fields.specs.Says.{told}
use Rattle.header_fields.specs.Promise.{PlaceAtPromise}
use Rattle.header_fields.proofs.Marks.{goes_on}
use Rattle.header_fields.proofs.place_at.Goals.{else-mark-ne45-via-then-mark-ne45+else-mark-ne43, else-mark-ne45-via-else-mark-ne45}
use Rattle.header_fields.proofs.place_at.Goals as goal

abbrev mark : ℕ → Bool
mark = either dash plus

module _ (t : List ℕ) (at : ℕ) where
  none : fits place mark (drop at t) ≡ false → PlaceAtPromise t at (Err (NoPlaceAt at))
  none f = record { says = ap told (step_no 8 place mark t at f) }

  no_code : None ≡ number_at t at 6 → PlaceAtPromise t at (Err (NoPlaceAt at))
  no_code e = none (
      ⊎_elim (λ (s : length t < at + 6). short place mark t at (omega arith))
      (λ (r : at + 6 ≤ length t). bad place mark t at (number_none t at 6 (omega arith) r (sym e))) (le_or_lt (length t) (at + 6))
      )

  module _ (code : ℕ) (e : Some code ≡ number_at t at 6) where
    no_more : false ≡ ltb (at + 6) (length t) → PlaceAtPromise t at (Err (NoPlaceAt at))
    no_more h = none (short place mark t at (omega (arith, ltb-false (at + 6) (length t) (sym h))))

    module _ (x : ℕ) (q : x ≡ get_or t (at + 6) 0) where
      no_mark : (x ≡ 45 → ⊥) → (x ≡ 43 → ⊥) → PlaceAtPromise t at (Err (NoPlaceAt at))
      no_mark h k = none (unmarked place mark t at (ap mark (sym q) ∙ simp (ne_eqb _ _ h, ne_eqb _ _ k)))

      one : true ≡ ltb (at + 6) (length t) → mark x ≡ true → PlaceAtPromise t at (Ok (code, at + 7))
      one l m =
          let d = number_is t at 6 code (sym e) in
          record { says = ap told (step_yes 8 place mark t at code (good place mark t at (goes_on place t at (ltb-true _ _ (sym l))) d.0 (ap mark (sym q) ∙ m)) d.1) }

pub returns-in_err-code : goal.returns-in_err-code
returns-in_err-code c =
    let a = c.args in
    let e = c.in_err-code.ensures in
    rw (handed_or c.from_residual.result _ (NoPlaceAt a.at) c.from_residual.ensures.1 e.value e.ok_part) (no_code a.text.now a.at (sym e.ok_part ∙ c.digits_at.ensures.says))

pub overflow_add-at : goal.overflow_add-at
overflow_add-at c = omega (arith, number_inside _ _ _ (sym c.digits_at.ensures.says ∙ c.in_ok-code.ensures.ok_part))

pub returns-in_err-mark : goal.returns-in_err-mark
returns-in_err-mark c =
    let a = c.args in
    let e = c.in_err-mark.ensures in
    let code = sym c.in_ok-code.ensures.ok_part ∙ c.digits_at.ensures.says in
    let seen = rw e.ok_part at c.get.ensures.lookup in
    rw (handed_or c.from_residual-in_err-mark.result _ (NoPlaceAt a.at) c.from_residual-in_err-mark.ensures.1 e.value e.ok_part) (no_more a.text.now a.at _ code seen.0)

pub returns-then-mark-ne43 : goal.returns-then-mark-ne43
returns-then-mark-ne43 c =
    let a = c.args in
    let seen = rw c.in_ok-mark.ensures.ok_part at c.get.ensures.lookup in
    let code = sym c.in_ok-code.ensures.ok_part ∙ c.digits_at.ensures.says in
    no_mark a.text.now a.at _ code _ (seen.4 (omega arith) 0) c.if-mark-ne45.true c.if-mark-ne43.true

pub returns : goal.returns
returns c =
    let a = c.args in
    let seen = rw c.in_ok-mark.ensures.ok_part at c.get.ensures.lookup in
    let code = sym c.in_ok-code.ensures.ok_part ∙ c.digits_at.ensures.says in
    let one = one a.text.now a.at _ code _ (seen.4 (omega arith) 0) seen.0 in
    elim c.else-mark-ne45.branch [
      | else-mark-ne45-via-then-mark-ne45+else-mark-ne43 w ↦ one (simp (eq-eqb _ _ w.if-mark-ne43.false, or-true))
      | else-mark-ne45-via-else-mark-ne45 w ↦ one (simp (eq-eqb _ _ w.if-mark-ne45.false))
    ]
