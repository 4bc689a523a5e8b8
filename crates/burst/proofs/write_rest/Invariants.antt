-- At the loop's head the bytes from i on are left to write.
use Prim.Native.Nat.{◌-◌}
use lib.ListN.{drop}
use Rattle.laws.specs.Space.{pasted}
use Rattle.laws.proofs.Pasted.{Todo}
use Rattle.burst.specs.Steps.{stretch}
use Rattle.burst.proofs.write_rest.Given as goal

abbrev pub invariant-loop-i : goal.invariant-loop-i
invariant-loop-i l =
    let s = stretch l.p l.from l.end in
    Todo l.initial.out (pasted l.initial.out l.from s) l.out l.i (drop (l.i - l.from) s)
