-- The clock says 15 or 14, and the report with it; or the times, and the rest says the report.
use mathlib.Core.Path.{refl, sym, ap, ◌∙◌}
use Rattle.refusals.proofs.Said.{handed_on}
use Rattle.refusals.specs.Refusals.{said}
use Rattle.header.specs.Answers.{alert_in}
use Rattle.book_rules.specs.Form.{form}
use Rattle.book_rules.specs.Afresh.{subs}
use Rattle.report.specs.Hits.{hits_of}
use Rattle.report.proofs.Stages.{untimely, timely}
use Rattle.report.proofs.alert_report.Goals as goal

pub returns-in_err-times : goal.returns-in_err-times
returns-in_err-times c =
    let a = c.args in
    untimely a.at a.f c.requires (hits_of a.client (alert_in a.f) (subs form a.book.words.now)) a.out.now
    c.in_err-times.field-0.0 c.from_residual.result (sym c.times_of.ensures.says ∙ ap said c.in_err-times.was)
    (handed_on c.in_err-times.field-0.0 c.from_residual.result c.from_residual.ensures refl)

pub returns : goal.returns
returns c =
    let a = c.args in
    timely a.at a.f c.requires (hits_of a.client (alert_in a.f) (subs form a.book.words.now)) a.out.now
    c.in_ok-times.times c.timed_report.result _
    (sym c.times_of.ensures.says ∙ ap said c.in_ok-times.was) c.timed_report.ensures
