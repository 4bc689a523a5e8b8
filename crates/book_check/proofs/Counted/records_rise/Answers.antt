-- At the loop's head each record passed is in range and above the one before it; the first that is not decides.
use Rattle.std.proofs.Common.{ap, sym, ◌∙◌, arith}
use Rattle.book_records.specs.Ranks.{rank_or_none}
use Rattle.book_records.proofs.Chunks.{length_records, in_record}
use Rattle.book_check.proofs.Rises.{begun, passed, stopped, outside, ended}
use Rattle.book_check.proofs.Counted.records_rise.Goals as goal

pub loop-first-init : goal.loop-first-init
loop-first-init c = begun _ _ 0 0

pub returns-in_default : goal.returns-in_default
returns-in_default c =
    let w = c.args.self.now.book.now in
    let i = c.loop-first.first-index in
    let n = length_records w c.args.self.now.n c.as_chunks.result.0.now c.args.self.now.long c.args.self.now.few c.as_chunks.ensures.front in
    let r = in_record w c.args.self.now.n c.as_chunks.result.0.now i c.args.self.now.long c.args.self.now.few (omega arith) c.as_chunks.ensures.front in
    outside w c.args.self.now.n c.loop-first.last i (omega arith) (sym c.in_default.is ∙ c.rank_or_none.ensures.says ∙ ap rank_or_none r)

pub returns-then-next-last : goal.returns-then-next-last
returns-then-next-last c =
    let w = c.args.self.now.book.now in
    let i = c.loop-first.first-index in
    let n = length_records w c.args.self.now.n c.as_chunks.result.0.now c.args.self.now.long c.args.self.now.few c.as_chunks.ensures.front in
    let r = in_record w c.args.self.now.n c.as_chunks.result.0.now i c.args.self.now.long c.args.self.now.few (omega arith) c.as_chunks.ensures.front in
    stopped w c.args.self.now.n c.loop-first.last i c.in-Some.next (omega arith) (sym c.in-Some.is ∙ c.rank_or_none.ensures.says ∙ ap rank_or_none r) (omega arith) c.loop-first.invariant

pub loop-first-preserved : goal.loop-first-preserved
loop-first-preserved c =
    let w = c.args.self.now.book.now in
    let i = c.loop-first.first-index in
    let n = length_records w c.args.self.now.n c.as_chunks.result.0.now c.args.self.now.long c.args.self.now.few c.as_chunks.ensures.front in
    let r = in_record w c.args.self.now.n c.as_chunks.result.0.now i c.args.self.now.long c.args.self.now.few (omega arith) c.as_chunks.ensures.front in
    passed w c.args.self.now.n c.loop-first.last i c.in-Some.next (omega arith) (sym c.in-Some.is ∙ c.rank_or_none.ensures.says ∙ ap rank_or_none r) (omega arith) c.loop-first.invariant

pub returns : goal.returns
returns c =
    let n = length_records c.args.self.now.book.now c.args.self.now.n c.as_chunks.result.0.now c.args.self.now.long c.args.self.now.few c.as_chunks.ensures.front in
    ended _ _ _ _ (omega arith) c.loop-first.invariant
