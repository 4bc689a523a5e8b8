-- The report's answer decides: a granted one leaves its summary as words, a refused one is handed on.
use mathlib.Core.Path.{refl, sym, ap, ◌∙◌}
use lib.ListN.{length}
use Rattle.refusals.specs.Refusals.{said}
use Rattle.refusals.proofs.Said.{handed_on}
use Rattle.c_words.proofs.Reported.{both_granted, both_refused}
use Rattle.c_words.proofs.report_both.Goals as goal

pub returns-in_err-s : goal.returns-in_err-s
returns-in_err-s c =
    let a = c.args in
    both_refused a.book.now a.client a.header.now a.at (length a.hits.now) a.summary.now a.hits.now _
    c.in_err-s.field-0.0 c.from_residual.result (ap said (sym c.in_err-s.was) ∙ c.report.ensures.says)
    (handed_on c.in_err-s.field-0.0 c.from_residual.result c.from_residual.ensures refl) c.report.ensures.lent

pub returns : goal.returns
returns c =
    let a = c.args in
    both_granted a.book.now a.client a.header.now a.at (length a.hits.now) a.summary.now a.hits.now _ _ c.in_ok-s.s
    (ap said (sym c.in_ok-s.was) ∙ c.report.ensures.says) c.put_summary.ensures c.report.ensures.lent
