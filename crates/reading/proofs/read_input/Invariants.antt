-- No more is counted than lies in the space, and so much is gone from the input and stands at the space's front; the reads so far did that. What is left of the space falls at each turn, since a read that brought nothing ends the loop.
use Rattle.std.proofs.Common.{length, take, ◌-◌, ◌≤◌}
use Rattle.std.specs.Io.KnownBytes.{Consumes}
use Rattle.std.specs.declared.io.Error.{Error}
use Rattle.reading.proofs.Turns.{SoFar}
use Rattle.reading.proofs.read_input.Given as goal

abbrev pub invariant-loop-n : goal.invariant-loop-n
invariant-loop-n g l = record {
  inside : l.n ≤ length l.space;
  read : Consumes (g.R.Read.remaining l.initial.input) (g.R.Read.remaining l.input) (take l.n l.space);
  turns : SoFar Error l.initial.space l.space l.n;
}

abbrev pub decreases-loop-n : goal.decreases-loop-n
decreases-loop-n g l = length l.space - l.n
