-- The bits that are set in the difference are those in which the two differ.
use mathlib.Core.Path.{ap}
use Prim.Native.Nat.{ℕ}
use lib.Dec.{leb}
use Rattle.burst.specs.Strip.{preamble}
use Rattle.burst.proofs.Preambles.{count_apart}
use Rattle.burst.proofs.is_preamble.Goals as goal

pub returns : goal.returns
unfolding preamble
returns c = ap (λ (n : ℕ). leb n 1) (count_apart c.args.x c.ranges.x.fits)
