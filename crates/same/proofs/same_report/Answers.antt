-- The four numbers make the clock of the promise; the rest is the call of crate c_words.
use Rattle.same.proofs.same_report.Goals as goal

pub returns : goal.returns
returns c = c.report_words.ensures
