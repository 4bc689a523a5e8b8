-- The three tests of 268 are those of the definition, in its order; the first that holds, or the last, is the answer.
use mathlib.Core.Logic.{⊎_elim}
use Prim.Native.Nat.{◌<◌}
use native.Mathlib.Omega.{arith}
use borrow.Author.Tests.{lt-ltb, le-ltb}
use lib.ListN.{length}
use Rattle.burst.specs.Vote.{too_long}
use Rattle.burst.proofs.too_long.Goals as goal
use Rattle.burst.proofs.too_long.Goals.{then-a-gt268, else-a-gt268}

pub returns-then-b-gt268 : goal.returns-then-b-gt268
unfolding too_long
returns-then-b-gt268 c =
    let a = length c.args.a.now in
    let b = length c.args.b.now in
    elim c.if-a-gt268.branch [
      | then-a-gt268 w ↦ rw (w.t-5-is, lt-ltb 268 a w.if-a-gt268.true)
      | else-a-gt268 w ↦ let h : 268 < b = ⊎_elim (λ p. absurd (omega arith)) (λ p. p.1) c.if-b-gt268.either in
          rw (w.t-5-is, le-ltb 268 a w.if-a-gt268.false, lt-ltb 268 b h)
    ]

pub returns-else-b-gt268 : goal.returns-else-b-gt268
unfolding too_long
returns-else-b-gt268 c = rw (le-ltb 268 (length c.args.a.now) (omega (arith, c.if-b-gt268.false)), le-ltb 268 (length c.args.b.now) (omega (arith, c.if-b-gt268.false)))
