-- Where nothing was refused the four conditions are met, so the minutes can be counted; else the refusal is handed on.
use mathlib.Core.Path.{sym, ap, ◌∙◌}
use Prim.Native.Nat.{ℕ}
use Rattle.laws.specs.Order.{granted}
use Rattle.refusals.proofs.Said.{handed_on}
use Rattle.clock.specs.Lifetime.{minute_of, phase_of}
use Rattle.clock.specs.declared.Clock.{Clock}
use Rattle.clock.proofs.Moments.{in_that_year}
use Rattle.clock.proofs.Asking.{asked_fit, lifetime_refused, lifetime_granted}
use Rattle.clock.proofs.lifetime.Goals as goal

pub returns-in_err-issue : goal.returns-in_err-issue
returns-in_err-issue c =
    let a = c.args in
    record { says = handed_on c.in_err-issue.field-0.0 _ c.from_residual.ensures (sym (lifetime_refused a.at a.day a.hour a.minute a.duration _ (sym c.in_err-issue.ensures))) }

pub returns : goal.returns
returns c =
    let a = c.args in
    let i = c.in_ok-issue.ensures in
    let m = c.minute_of.ensures.is ∙ ap (λ (t : Clock). minute_of t.day t.hour t.minute) i.0 in
    let s = c.phase_at.ensures
    ∙ ap (λ (m : ℕ). phase_of m a.duration (minute_of a.at.day a.at.hour a.at.minute)) m
    ∙ in_that_year a.at a.day a.hour a.minute a.duration in
    record { says = ap granted s ∙ sym (lifetime_granted a.at a.day a.hour a.minute a.duration (asked_fit a.at a.day a.hour a.minute a.duration i.1)) }
