-- What is left to write, pasted at its index, gives the whole.
use Prim.Native.Nat.{◌+◌}
use lib.ListN.{drop}
use Rattle.laws.specs.Space.{pasted}
use Rattle.laws.proofs.Pasted.{Todo}
use Rattle.codec.proofs.put_bytes.Given as goal

abbrev pub invariant-loop-k : goal.invariant-loop-k
invariant-loop-k l = Todo l.initial.out (pasted l.initial.out l.at l.src) l.out (l.at + l.k) (drop l.k l.src)
