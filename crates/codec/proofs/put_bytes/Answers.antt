-- What is left to write, pasted at its index, gives the whole.
use Prim.Native.Nat.{◌+◌}
use mathlib.Core.Path.{◌≡◌, refl, sym}
use native.Mathlib.Nat.{add-zero}
use native.Mathlib.Omega.{arith}
use Rattle.laws.proofs.Pasted.{todo}
use Rattle.laws.proofs.Writes.{write_next, write_end}
use Rattle.codec.proofs.Puts.{put_yes, put_no}
use Rattle.codec.proofs.put_bytes.Goals.{then-out-at-via-then-out-at, then-out-at-via-else-out-at+then-out-at-2}
use Rattle.codec.proofs.put_bytes.Goals as goal

pub returns-then-out-at : goal.returns-then-out-at
returns-then-out-at c =
    elim c.then-out-at.branch [
      | then-out-at-via-then-out-at w ↦ put_no _ _ _ (omega (arith, w.if-out-at.true))
      | then-out-at-via-else-out-at+then-out-at-2 w ↦ put_no _ _ _ (omega (arith, w.if-out-at.false, w.if-out-at-2.true))
    ]

pub loop-k-init : goal.loop-k-init
loop-k-init c = rw add-zero (todo _ _ _ (omega arith))

pub bounds-out-at : goal.bounds-out-at
bounds-out-at c = omega (arith, c.loop-k.invariant.len)

pub loop-k-preserved : goal.loop-k-preserved
loop-k-preserved c =
    let l = c.loop-k in
    let a = c.args in
    let e : a.at + l.k + 1 ≡ a.at + (l.k + 1) = omega arith in
    rw (sym e) (write_next a.out.now _ l.out (a.at + l.k) a.src.now l.k l.invariant _ (omega arith) refl)

pub returns : goal.returns
returns c =
    let l = c.loop-k in
    let a = c.args in
    put_yes (omega arith) (write_end a.out.now _ l.out (a.at + l.k) a.src.now l.k l.invariant (omega arith))
