-- The lines of the hits that are left, pasted at their index, give the whole.
use Rattle.std.proofs.Common.{arith}
use Rattle.codec.proofs.Puts.{put_yes, put_no}
use Rattle.page_lines.proofs.Hits.{hits_length, hits_begun, hits_room, hits_turn, hits_ended}
use Rattle.page_lines.proofs.put_hits.Goals as goal

pub returns-in_default : goal.returns-in_default
returns-in_default c = let h = rw c.in_default.is at c.checked_sub.ensures in put_no _ _ _ (omega (arith, h))

pub returns-then-room-pairs : goal.returns-then-room-pairs
returns-then-room-pairs c =
    put_no _ _ _ (omega (arith, hits_length c.args.hits.now, c.in-Some.ensures, c.as_chunks.ensures.front_len, c.if-room-pairs.true))

pub loop-place-init : goal.loop-place-init
loop-place-init c = hits_begun _ _ _ _ c.as_chunks.ensures.front (omega (arith, c.as_chunks.ensures.front_len, c.if-room-pairs.false))

pub overflow_add-e : goal.overflow_add-e
overflow_add-e c =
    let a = c.args in
    let l = c.loop-place in
    omega (arith, l.invariant.len, hits_room a.out.now a.at a.hits.now c.as_chunks.result.0.now _ _ l.place-index l.invariant (omega arith))

pub loop-place-preserved : goal.loop-place-preserved
loop-place-preserved c =
    let a = c.args in
    let l = c.loop-place in
    hits_turn a.out.now a.at a.hits.now c.as_chunks.result.0.now _ _ l.place-index l.invariant (omega arith) c.put_line.ensures

pub returns : goal.returns
returns c =
    let a = c.args in
    let l = c.loop-place in
    put_yes (omega (arith, hits_length a.hits.now, c.in-Some.ensures, c.as_chunks.ensures.front_len, c.if-room-pairs.false))
    (hits_ended a.out.now a.at a.hits.now c.as_chunks.result.0.now _ _ l.place-index l.invariant (omega arith))
