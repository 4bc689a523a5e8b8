-- Each test that fails is a reason why the field is not allowed; where all hold, hours and minutes are the value.
use mathlib.Core.Path.{sym, ◌∙◌}
use Prim.Native.Nat.{◌+◌}
use native.Mathlib.Omega.{arith}
use borrow.Author.Tests.{ltb-true}
use Rattle.codec.proofs.Numbers.{number_inside}
use Rattle.header.specs.Header.{duration}
use Rattle.header_fields.proofs.Marks.{stops_short, no_room, no_number, not_allowed, not_marked, stands}
use Rattle.header_fields.proofs.Numbers.{no_hours, no_minutes, a_duration}
use Rattle.header_fields.proofs.minutes_at.Goals.{then-mark-ne45-via-then-mark-ne45, then-mark-ne45-via-else-mark-ne45+then-not-is_duration_of}
use Rattle.header_fields.proofs.minutes_at.Goals as goal

pub returns-in_err-h : goal.returns-in_err-h
returns-in_err-h c =
    let a = c.args in
    rw c.from_residual.ensures (record { says = no_number duration a.text.now a.at 9 a.at 2 (omega arith) (omega arith) c.in_err-h.ensures.says (no_hours a.text.now a.at) })

pub overflow_add-at : goal.overflow_add-at
overflow_add-at c = omega (arith, number_inside _ _ _ (sym c.in_ok-h.ensures.says))

pub returns-in_err-m : goal.returns-in_err-m
returns-in_err-m c =
    let a = c.args in
    rw c.from_residual-in_err-m.ensures (record { says = no_number duration a.text.now a.at 9 (a.at + 2) 2 (omega arith) (omega arith) c.in_err-m.ensures.says (no_minutes a.text.now a.at) })

pub overflow_add-at-2 : goal.overflow_add-at-2
overflow_add-at-2 c = omega (arith, number_inside _ _ _ (sym c.in_ok-m.ensures.says))

pub returns-in_err-mark : goal.returns-in_err-mark
returns-in_err-mark c =
    let a = c.args in
    rw c.from_residual-in_err-mark.ensures (record { says = no_room duration a.text.now a.at 9 (stops_short duration a.text.now a.at (sym c.in_err-mark.ensures.lookup.0)) })

pub returns-then-mark-ne45 : goal.returns-then-mark-ne45
returns-then-mark-ne45 c =
    let a = c.args in
    let both = a_duration a.text.now a.at _ _ c.in_ok-h.ensures.says c.in_ok-m.ensures.says in
    elim c.then-mark-ne45.branch [
      | then-mark-ne45-via-then-mark-ne45 w ↦
          record { says = not_marked duration a.text.now a.at 9 _ (c.in_ok-mark.ensures.lookup.4 (omega arith) 0) w.if-mark-ne45.true }
      | then-mark-ne45-via-else-mark-ne45+then-not-is_duration_of w ↦
          record { says = not_allowed duration a.text.now a.at 9 (both.test ∙ sym w.is_duration_of.ensures.says ∙ w.if-not-is_duration_of.true) }
    ]

pub returns : goal.returns
returns c =
    let a = c.args in
    let both = a_duration a.text.now a.at _ _ c.in_ok-h.ensures.says c.in_ok-m.ensures.says in
    let yes = both.test ∙ sym c.is_duration_of.ensures.says ∙ c.if-not-is_duration_of.false in
    let seen = c.in_ok-mark.ensures.lookup in
    record { says = stands duration a.text.now a.at 9 _ _ (ltb-true _ _ (sym seen.0)) yes (seen.4 (omega arith) 0) c.if-mark-ne45.false both.mean }
