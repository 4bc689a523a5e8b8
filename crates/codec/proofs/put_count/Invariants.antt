-- What is left to write, pasted at its index, gives the whole.
use Rattle.laws.proofs.Decimal.{Digits}
use Rattle.codec.proofs.put_count.Given as goal

abbrev pub invariant-loop-k : goal.invariant-loop-k
invariant-loop-k l = Digits l.initial.out l.out l.at l.width l.n l.k l.v
