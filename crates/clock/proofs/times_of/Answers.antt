-- Where nothing was refused the four conditions are met, which the times ask for; else the refusal is handed on.
use mathlib.Core.Path.{sym, ap, ◌∙◌}
use Rattle.laws.specs.Order.{granted}
use Rattle.refusals.proofs.Said.{handed_on}
use Rattle.clock.specs.Lifetime.{times_of}
use Rattle.clock.specs.declared.Clock.{Clock}
use Rattle.clock.proofs.Moments.{year_is}
use Rattle.clock.proofs.Asking.{asked_fit, times_refused, times_granted}
use Rattle.clock.proofs.times_of.Goals as goal

pub returns-in_err-issue : goal.returns-in_err-issue
returns-in_err-issue c =
    let a = c.args in
    record { says = handed_on c.in_err-issue.field-0.0 _ c.from_residual.ensures (sym (times_refused a.at a.day a.hour a.minute a.duration _ (sym c.in_err-issue.ensures))) }

pub times_at-requires : goal.times_at-requires
times_at-requires c =
    let a = c.args in
    let i = c.in_ok-issue.ensures in
    rw i.0 (i.1, year_is a.at a.day a.hour a.minute)

pub returns : goal.returns
returns c =
    let a = c.args in
    let i = c.in_ok-issue.ensures in
    let t = c.times_at.ensures ∙ ap (λ (t : Clock). times_of a.at t.day t.hour t.minute a.duration) i.0 in
    record { says = ap granted t ∙ sym (times_granted a.at a.day a.hour a.minute a.duration (asked_fit a.at a.day a.hour a.minute a.duration i.1)) }
