-- Each test that fails is a reason why the field is not allowed; where all hold, day, hour and minute are the value.
use mathlib.Core.Path.{sym, ◌∙◌}
use Prim.Native.Nat.{◌+◌}
use native.Mathlib.Omega.{arith}
use borrow.Author.Tests.{ltb-true}
use Rattle.codec.proofs.Numbers.{number_inside}
use Rattle.header.specs.Header.{issue}
use Rattle.header_fields.proofs.Marks.{stops_short, no_room, no_number, not_allowed, not_marked, stands}
use Rattle.header_fields.proofs.Numbers.{no_day, no_hour, no_minute, a_moment}
use Rattle.header_fields.proofs.issue_at.Goals.{then-mark-ne45-via-then-mark-ne45, then-mark-ne45-via-else-mark-ne45+then-not-is_issue}
use Rattle.header_fields.proofs.issue_at.Goals as goal

pub returns-in_err-day : goal.returns-in_err-day
returns-in_err-day c =
    let a = c.args in
    rw c.from_residual.ensures (record { says = no_number issue a.text.now a.at 10 a.at 3 (omega arith) (omega arith) c.in_err-day.ensures.says (no_day a.text.now a.at) })

pub overflow_add-at : goal.overflow_add-at
overflow_add-at c = omega (arith, number_inside _ _ _ (sym c.in_ok-day.ensures.says))

pub returns-in_err-hour : goal.returns-in_err-hour
returns-in_err-hour c =
    let a = c.args in
    rw c.from_residual-in_err-hour.ensures (record { says = no_number issue a.text.now a.at 10 (a.at + 3) 2 (omega arith) (omega arith) c.in_err-hour.ensures.says (no_hour a.text.now a.at) })

pub overflow_add-at-2 : goal.overflow_add-at-2
overflow_add-at-2 c = omega (arith, number_inside _ _ _ (sym c.in_ok-hour.ensures.says))

pub returns-in_err-minute : goal.returns-in_err-minute
returns-in_err-minute c =
    let a = c.args in
    rw c.from_residual-in_err-minute.ensures (record { says = no_number issue a.text.now a.at 10 (a.at + 5) 2 (omega arith) (omega arith) c.in_err-minute.ensures.says (no_minute a.text.now a.at) })

pub overflow_add-at-3 : goal.overflow_add-at-3
overflow_add-at-3 c = omega (arith, number_inside _ _ _ (sym c.in_ok-minute.ensures.says))

pub returns-in_err-mark : goal.returns-in_err-mark
returns-in_err-mark c =
    let a = c.args in
    rw c.from_residual-in_err-mark.ensures (record { says = no_room issue a.text.now a.at 10 (stops_short issue a.text.now a.at (sym c.in_err-mark.ensures.lookup.0)) })

pub returns-then-mark-ne45 : goal.returns-then-mark-ne45
returns-then-mark-ne45 c =
    let a = c.args in
    let all = a_moment a.text.now a.at _ _ _ c.in_ok-day.ensures.says c.in_ok-hour.ensures.says c.in_ok-minute.ensures.says in
    elim c.then-mark-ne45.branch [
      | then-mark-ne45-via-then-mark-ne45 w ↦
          record { says = not_marked issue a.text.now a.at 10 _ (c.in_ok-mark.ensures.lookup.4 (omega arith) 0) w.if-mark-ne45.true }
      | then-mark-ne45-via-else-mark-ne45+then-not-is_issue w ↦
          record { says = not_allowed issue a.text.now a.at 10 (all.test ∙ sym w.is_issue.ensures.says ∙ w.if-not-is_issue.true) }
    ]

pub returns : goal.returns
returns c =
    let a = c.args in
    let all = a_moment a.text.now a.at _ _ _ c.in_ok-day.ensures.says c.in_ok-hour.ensures.says c.in_ok-minute.ensures.says in
    let yes = all.test ∙ sym c.is_issue.ensures.says ∙ c.if-not-is_issue.false in
    let seen = c.in_ok-mark.ensures.lookup in
    record { says = stands issue a.text.now a.at 10 _ _ (ltb-true _ _ (sym seen.0)) yes (seen.4 (omega arith) 0) c.if-mark-ne45.false all.mean }
