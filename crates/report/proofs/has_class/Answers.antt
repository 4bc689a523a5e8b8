-- The class is one of 1 to 6, and its bit of the wish is the one that a shift brings down.
use borrow.Author.Tests.{lt-leb, le-leb}
use Rattle.report.specs.Hits.{has_class}
use Rattle.report.proofs.has_class.Goals as goal

pub returns-then-class-lt1 : goal.returns-then-class-lt1
unfolding has_class
returns-then-class-lt1 c = simp (lt-leb _ _ c.if-class-lt1.true)

pub returns-then-class-gt6 : goal.returns-then-class-gt6
unfolding has_class
returns-then-class-gt6 c = simp (le-leb _ _ c.if-class-lt1.false, lt-leb _ _ c.if-class-gt6.true)

pub returns : goal.returns
unfolding has_class
returns c = simp (le-leb _ _ c.if-class-lt1.false, le-leb _ _ c.if-class-gt6.false)
