-- What is gathered is added first, and then what is left has its say.
use Rattle.page.proofs.Gathering.{Gathering}
use Rattle.page.proofs.gather.Given as goal

abbrev pub invariant-loop-count : goal.invariant-loop-count
invariant-loop-count l = Gathering l.input l.at l.items l.count l.i
