-- What a report promises.
use Rattle.std.specs.Prelude.{ℕ, List, ◌≡◌, length, Result}
use Rattle.laws.specs.Space.{pasted, leaves}
use Rattle.clock.specs.declared.Clock.{Clock}
use Rattle.report.specs.Hits.{pairs}
use Rattle.report.specs.Report.{Full, report_says}
use Rattle.report.specs.Answers.{answer_says}
use Rattle.report.specs.declared.Summary.{Summary}
use Rattle.refusals.specs.Refusals.{said}
use Rattle.refusals.specs.declared.Refusal.{Refusal}

-- a granted report writes the pairs of its hits to the front of the lent words, and no other word
abbrev pub writes_hits : Full → List ℕ → List ℕ
writes_hits g out = pasted out 0 (pairs g.hits)

-- lent words that hold out at first and left at last
pub record ReportPromise (book : List ℕ) (client : ℕ) (text : List ℕ) (at : Clock) (out : List ℕ) (r : Result Summary Refusal) (left : List ℕ) : Type 0 where
  pub says : said r ≡ answer_says (report_says book client text at (length out))
  pub lent : left ≡ leaves writes_hits (report_says book client text at (length out)) out
