-- The one test of the client is of the client in the second word.
use Prim.Native.Nat.{ℕ}
use mathlib.Core.Path.{ap}
use lib.Dec.{eqb}
use Rattle.report.proofs.is_own.Goals as goal

pub returns : goal.returns
returns c = ap (λ (n : ℕ). eqb n c.args.client) c.client_of.ensures.says
