-- Start, origin and event stand there, one after the other; then the list of places; then duration and issue.
use mathlib.Core.Path.{sym, ap, ◌∙◌}
use native.Mathlib.Omega.{arith}
use Rattle.laws.proofs.Handed.{handed, handed_or}
use Prim.Native.Nat.{◌+◌}
use Rattle.refusals.specs.declared.Refusal.TheVariants.{NoDurationAt, NoIssueAt}
use Rattle.header.proofs.Stages.{no_start, no_origin, no_event, at_13}
use Rattle.header_fields.specs.Says.{told}
use Rattle.header_reading.proofs.Fronts.{list_stops, list_ends, no_minutes, no_moment, times_end, front_inside}
use Rattle.header_reading.proofs.front_of.Goals as goal

pub returns-then-not-start_at : goal.returns-then-not-start_at
returns-then-not-start_at c =
    let none = sym c.start_at.ensures.says ∙ c.if-not-start_at.true in
    sym (ap told (no_start c.args.text.now none))

pub returns-then-not-origin_at : goal.returns-then-not-origin_at
returns-then-not-origin_at c =
    let five = sym c.start_at.ensures.says ∙ c.if-not-start_at.false in
    let none = sym c.origin_at.ensures.says ∙ c.if-not-origin_at.true in
    sym (ap told (no_origin c.args.text.now five none))

pub returns-then-not-event_at : goal.returns-then-not-event_at
returns-then-not-event_at c =
    let five = sym c.start_at.ensures.says ∙ c.if-not-start_at.false in
    let six = sym c.origin_at.ensures.says ∙ c.if-not-origin_at.false in
    let none = sym c.event_at.ensures.says ∙ c.if-not-event_at.true in
    sym (ap told (no_event c.args.text.now five six none))

pub places_at-requires : goal.places_at-requires
places_at-requires c =
    let five = sym c.start_at.ensures.says ∙ c.if-not-start_at.false in
    let six = sym c.origin_at.ensures.says ∙ c.if-not-origin_at.false in
    let seven = sym c.event_at.ensures.says ∙ c.if-not-event_at.false in
    ((at_13 c.args.text.now five six seven).inside, c.requires)

pub returns-in_err-count : goal.returns-in_err-count
returns-in_err-count c =
    let five = sym c.start_at.ensures.says ∙ c.if-not-start_at.false in
    let six = sym c.origin_at.ensures.says ∙ c.if-not-origin_at.false in
    let seven = sym c.event_at.ensures.says ∙ c.if-not-event_at.false in
    rw (handed c.from_residual.result _ c.from_residual.ensures.1) (list_stops c.args.text.now c.places_at.new.codes five six seven _ c.in_err-count.ensures)

pub returns-in_err-minutes : goal.returns-in_err-minutes
returns-in_err-minutes c =
    let five = sym c.start_at.ensures.says ∙ c.if-not-start_at.false in
    let six = sym c.origin_at.ensures.says ∙ c.if-not-origin_at.false in
    let seven = sym c.event_at.ensures.says ∙ c.if-not-event_at.false in
    let t = c.args.text.now in
    let codes = c.places_at.new.codes in
    let k = c.in_ok-count in
    let e = c.in_err-minutes.ensures in
    let said = rw e.ok_part at c.minutes_at.ensures.says in
    rw (handed_or c.from_residual-in_err-minutes.result _ (NoDurationAt k.at) c.from_residual-in_err-minutes.ensures.1 e.value e.ok_part)
    (no_minutes t codes five six seven k.count k.at k.ensures said)

pub overflow_add-at : goal.overflow_add-at
overflow_add-at c =
    let five = sym c.start_at.ensures.says ∙ c.if-not-start_at.false in
    let six = sym c.origin_at.ensures.says ∙ c.if-not-origin_at.false in
    let seven = sym c.event_at.ensures.says ∙ c.if-not-event_at.false in
    let k = c.in_ok-count in
    omega (arith, (list_ends c.args.text.now c.places_at.new.codes five six seven k.count k.at k.ensures).inside)

pub overflow_add-at-2 : goal.overflow_add-at-2
overflow_add-at-2 c =
    let five = sym c.start_at.ensures.says ∙ c.if-not-start_at.false in
    let six = sym c.origin_at.ensures.says ∙ c.if-not-origin_at.false in
    let seven = sym c.event_at.ensures.says ∙ c.if-not-event_at.false in
    let k = c.in_ok-count in
    omega (arith, (list_ends c.args.text.now c.places_at.new.codes five six seven k.count k.at k.ensures).inside)

pub returns-in_err-issue : goal.returns-in_err-issue
returns-in_err-issue c =
    let five = sym c.start_at.ensures.says ∙ c.if-not-start_at.false in
    let six = sym c.origin_at.ensures.says ∙ c.if-not-origin_at.false in
    let seven = sym c.event_at.ensures.says ∙ c.if-not-event_at.false in
    let t = c.args.text.now in
    let codes = c.places_at.new.codes in
    let k = c.in_ok-count in
    let nine = rw c.in_ok-minutes.ensures.ok_part at c.minutes_at.ensures.says in
    let e = c.in_err-issue.ensures in
    let ten = rw e.ok_part at c.issue_at.ensures.says in
    rw (handed_or c.from_residual-in_err-issue.result _ (NoIssueAt (k.at + 5)) c.from_residual-in_err-issue.ensures.1 e.value e.ok_part)
    (no_moment t codes five six seven k.count k.at k.ensures _ nine ten)

pub overflow_add-result : goal.overflow_add-result
overflow_add-result c =
    let five = sym c.start_at.ensures.says ∙ c.if-not-start_at.false in
    let six = sym c.origin_at.ensures.says ∙ c.if-not-origin_at.false in
    let seven = sym c.event_at.ensures.says ∙ c.if-not-event_at.false in
    let t = c.args.text.now in
    let codes = c.places_at.new.codes in
    let k = c.in_ok-count in
    let nine = rw c.in_ok-minutes.ensures.ok_part at c.minutes_at.ensures.says in
    let ten = rw c.in_ok-issue.ensures.ok_part at c.issue_at.ensures.says in
    let read = times_end t codes five six seven k.count k.at k.ensures _ nine c.in_ok-issue.issue ten in
    omega (arith, front_inside t codes _ read)

pub returns : goal.returns
returns c =
    let five = sym c.start_at.ensures.says ∙ c.if-not-start_at.false in
    let six = sym c.origin_at.ensures.says ∙ c.if-not-origin_at.false in
    let seven = sym c.event_at.ensures.says ∙ c.if-not-event_at.false in
    let t = c.args.text.now in
    let codes = c.places_at.new.codes in
    let k = c.in_ok-count in
    let nine = rw c.in_ok-minutes.ensures.ok_part at c.minutes_at.ensures.says in
    let ten = rw c.in_ok-issue.ensures.ok_part at c.issue_at.ensures.says in
    times_end t codes five six seven k.count k.at k.ensures _ nine c.in_ok-issue.issue ten
