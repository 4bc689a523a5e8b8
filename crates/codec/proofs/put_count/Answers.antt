-- What is left to write, pasted at its index, gives the whole.
use mathlib.Core.Path.{refl}
use native.Mathlib.Omega.{arith}
use Rattle.laws.proofs.Decimal.{digit_turn, digits_done, length_dig}
use Rattle.codec.proofs.Puts.{put_yes, put_no}
use Rattle.codec.proofs.put_count.Goals.{then-out-at-via-then-out-at, then-out-at-via-else-out-at+then-out-at-2}
use Rattle.codec.proofs.put_count.Goals as goal

pub returns-then-out-at : goal.returns-then-out-at
returns-then-out-at c =
    let l = length_dig c.args.width c.args.n in
    elim c.then-out-at.branch [
      | then-out-at-via-then-out-at w ↦ put_no _ _ _ (omega (arith, w.if-out-at.true))
      | then-out-at-via-else-out-at+then-out-at-2 w ↦ put_no _ _ _ (omega (arith, w.if-out-at.false, w.if-out-at-2.true))
    ]

pub loop-k-init : goal.loop-k-init
loop-k-init c = record { low = omega arith; len = refl; same = refl }

pub bounds-out-at : goal.bounds-out-at
bounds-out-at c = omega (arith, c.loop-k.invariant.low, c.loop-k.invariant.len)

pub loop-k-preserved : goal.loop-k-preserved
loop-k-preserved c = digit_turn _ _ _ _ _ _ _ c.loop-k-test.true (omega arith) c.loop-k.invariant

pub returns : goal.returns
returns c =
    let a = c.args in
    put_yes (omega (arith, length_dig a.width a.n)) (digits_done _ _ _ _ _ _ _ c.loop-k-test.false c.loop-k.invariant)
