-- The lines that are left, pasted at their index, give the whole: event, whether listed, class, phase.
use Rattle.std.proofs.Common.{arith}
use Rattle.page_printing.proofs.Whats.{event_room, listed_room, class_end, phase_room, what_done}
use Rattle.page_printing.proofs.put_what.Goals as goal

pub put_line-e-requires : goal.put_line-e-requires
put_line-e-requires c = let a = c.args in event_room _ _ a.event.now a.listed a.class a.phase c.requires

pub put_line-f-requires : goal.put_line-f-requires
put_line-f-requires c =
    let a = c.args in
    listed_room _ _ a.event.now a.listed a.class a.phase c.requires c.put_line-e.ensures _ c.listed_word.ensures

pub overflow_add-f : goal.overflow_add-f
overflow_add-f c =
    let a = c.args in
    omega (
      arith,
      class_end _ _ a.event.now a.listed a.class a.phase c.requires c.put_line-e.ensures _ c.listed_word.ensures c.put_line-f.ensures c.put_number.ensures,
    )

pub put_line-requires : goal.put_line-requires
put_line-requires c =
    let a = c.args in
    phase_room _ _ a.event.now a.listed a.class a.phase c.requires c.put_line-e.ensures _ c.listed_word.ensures c.put_line-f.ensures c.put_number.ensures
    _ c.phase_word.ensures

pub returns : goal.returns
returns c =
    let a = c.args in
    what_done _ _ a.event.now a.listed a.class a.phase c.requires c.put_line-e.ensures _ c.listed_word.ensures c.put_line-f.ensures c.put_number.ensures
    _ c.phase_word.ensures c.put_line.ensures
