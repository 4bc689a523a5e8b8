-- Each test that was passed is known, and what is refused is refused by the first that fails.
use mathlib.Core.Path.{sym, ap, ◌∙◌}
use Prim.Native.Nat.{ℕ}
use Rattle.std.proofs.lemmas.Result.{err_from_is_err_and}
use Rattle.clock.specs.Clock.{has_day}
use Rattle.clock.proofs.Asking.{asked_clock, checked, asked_9, asked_10, asked_14}
use Rattle.clock.proofs.Moments.{year_is}
use Rattle.clock.proofs.issued.Goals as goal

pub returns-in_err-check : goal.returns-in_err-check
returns-in_err-check c =
    let a = c.args in
    let p = err_from_is_err_and c.from_residual.result c.from_residual.ensures.1 in
    rw (p.1, p.2) (asked_clock a.at a.day a.hour a.minute a.duration _ c.in_err-check.ensures.says)

pub returns-then-not-is_duration : goal.returns-then-not-is_duration
returns-then-not-is_duration c =
    let a = c.args in
    sym (asked_9 a.at a.day a.hour a.minute a.duration (checked a.at (sym c.in_ok-check.ensures.says))
    (sym c.is_duration.ensures.says ∙ c.if-not-is_duration.true))

pub returns-then-not-is_issue : goal.returns-then-not-is_issue
returns-then-not-is_issue c =
    let a = c.args in
    sym (asked_10 a.at a.day a.hour a.minute a.duration (checked a.at (sym c.in_ok-check.ensures.says)) (sym c.is_duration.ensures.says ∙ c.if-not-is_duration.false)
    (sym c.is_issue.ensures.says ∙ c.if-not-is_issue.true))

pub returns-then-not-has_day : goal.returns-then-not-has_day
returns-then-not-has_day c =
    let a = c.args in
    sym (asked_14 a.at a.day a.hour a.minute a.duration (checked a.at (sym c.in_ok-check.ensures.says)) (sym c.is_duration.ensures.says ∙ c.if-not-is_duration.false) (sym c.is_issue.ensures.says ∙ c.if-not-is_issue.false)
    (ap (λ (y : ℕ). has_day y a.day) (year_is a.at a.day a.hour a.minute) ∙ sym c.has_day.ensures ∙ c.if-not-has_day.true))

pub returns : goal.returns
returns c =
    let a = c.args in
    let y = year_is a.at a.day a.hour a.minute in (
      (λ q. record { year = sym y q; day = a.day; hour = a.hour; minute = a.minute }),
      record {
        clock = checked a.at (sym c.in_ok-check.ensures.says);
        lasts = (sym c.is_duration.ensures.says ∙ c.if-not-is_duration.false);
        issue = (sym c.is_issue.ensures.says ∙ c.if-not-is_issue.false);
        exists = ap (λ (y : ℕ). has_day y a.day) y ∙ sym c.has_day.ensures ∙ c.if-not-has_day.false;
      },
    )
