-- At the loop's head each record passed is in range and above the one before it; the first that is not decides.
use Rattle.book_check.proofs.Rises.{Passed}
use Rattle.book_check.proofs.Counted.records_rise.Given as goal

abbrev pub invariant-loop-first : goal.invariant-loop-first
invariant-loop-first l = Passed l.self.book.now l.self.n l.last l.first-index
