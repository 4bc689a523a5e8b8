-- A load of the items gathered says what the lines say up to the first that is malformed; then 23 has its say.
use Rattle.std.proofs.Common.{ap, ◌∙◌}
use Rattle.laws.proofs.Handed.{handed}
use Rattle.page.specs.Steps.{booked}
use Rattle.page.proofs.Booking.{stops, ends}
use Rattle.page.proofs.add_subs.Goals as goal

pub returns-in_err-load : goal.returns-in_err-load
returns-in_err-load c =
    let g = c.gather-count in
    ap (λ r. booked r c.load.new.book) (handed _ _ c.from_residual.ensures.1)
    ∙ stops c.args.input.now c.args.at g.result.0 g.result.1 _ g.ensures c.args.book.now c.requires.1 _ _
    (rw c.as_flattened.ensures.value at c.in_err-load.ensures)

pub returns : goal.returns
returns c =
    let g = c.gather-count in
    ends c.args.input.now c.args.at g.result.0 g.result.1 _ g.ensures c.args.book.now c.requires.1 _ (rw c.as_flattened.ensures.value at c.in_ok-load.ensures)
