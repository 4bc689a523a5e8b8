-- The loop's invariant: what is left to read, with the places read so far in front, is the whole list.
use native.Mathlib.Omega.{arith}
use borrow.Author.Tests.{eq-eqb, ne_eqb}
use Rattle.header_reading.proofs.Listing.{begun, full, stop, step_is, long, answer, again}
use Rattle.header_reading.proofs.places_at.Goals as goal

pub loop-n-init : goal.loop-n-init
loop-n-init c = begun _ _ _ c.requires.0 c.requires.1

pub bounds-text-i : goal.bounds-text-i
bounds-text-i c = long c.args.text.now c.loop-n.i c.in-Ok.place c.in-Ok.next (step_is _ _ _ _ c.in-Ok.ensures)

pub returns-then-text-i-eq43 : goal.returns-then-text-i-eq43
returns-then-text-i-eq43 c =
    answer _ _ _ _ _ c.in-Ok.place _ c.loop-n.invariant (omega (arith, c.loop-n-test.true, c.loop-n.invariant.len)) (step_is _ _ _ _ c.in-Ok.ensures) (eq-eqb _ _ c.if-text-i-eq43.true)

pub loop-n-preserved : goal.loop-n-preserved
loop-n-preserved c =
    again _ _ _ _ _ c.in-Ok.place _ c.loop-n.invariant (omega (arith, c.loop-n-test.true, c.loop-n.invariant.len)) (step_is _ _ _ _ c.in-Ok.ensures) (ne_eqb _ _ c.if-text-i-eq43.false)

pub returns-in_default : goal.returns-in_default
returns-in_default c = rw c.in_default.is (stop _ _ _ _ _ c.loop-n.invariant c.in_default.field-0 (c.in_default.ensures {u = tt}))

pub returns : goal.returns
returns c = full _ _ _ _ _ c.loop-n.invariant c.loop-n-test.false
