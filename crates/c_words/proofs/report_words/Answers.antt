-- The report is told in halves, with its summary or without.
use native.Mathlib.Omega.{arith}
use Rattle.c_answers.proofs.Instances.{told_size}
use Rattle.c_words.proofs.Reported.{few_promise, all_promise}
use Rattle.c_words.proofs.report_words.Goals as goal

pub returns-then-summary-lt16 : goal.returns-then-summary-lt16
returns-then-summary-lt16 c =
    let a = c.args in
    few_promise a.book.now a.client a.header.now a.at a.summary.now a.hits.now _ c.report_blind.result (told_size c.told.ensures) (omega arith) c.report_blind.ensures

pub returns : goal.returns
returns c =
    let a = c.args in
    all_promise a.book.now a.client a.header.now a.at a.summary.now a.hits.now _ c.report_both.result (told_size c.told-2.ensures) _ _ (omega arith) c.report_both.ensures
