-- The lines of the hits that are left, pasted at their index, give the whole.
use Rattle.page_lines.proofs.Hits.{Left}
use Rattle.page_lines.proofs.put_hits.Given as goal

abbrev pub invariant-loop-place : goal.invariant-loop-place
invariant-loop-place l = Left l.fn.out l.at l.hits l.pairs l.out l.e l.place-index
