-- At the loop's head the voted bytes from i on are left to write.
use lib.ListN.{length, drop}
use Rattle.laws.specs.Space.{pasted}
use Rattle.laws.proofs.Pasted.{Todo}
use Rattle.burst.specs.Steps.{voted_bytes}
use Rattle.burst.proofs.write_voted.Given as goal

abbrev pub invariant-loop-i : goal.invariant-loop-i
invariant-loop-i l =
    let s = voted_bytes l.a l.b l.c (length l.a) in
    Todo l.initial.out (pasted l.initial.out 0 s) l.out l.i (drop l.i s)
