-- What is left of the page, pasted at its index, gives the whole: its first three lines, the next four, the hits.
use Rattle.page_printing.proofs.Pages.{page_short, page_long, what_room, found_room, page_done}
use Rattle.page_printing.proofs.print_page.Goals as goal

pub returns-in_default : goal.returns-in_default
returns-in_default c =
    let a = c.args in
    page_short a.client a.times a.event.now a.listed a.class a.hits.now _ c.size_of-w.ensures.says _ (rw c.in_default.is at c.room_for_hits.ensures)

pub returns-then-left-n : goal.returns-then-left-n
returns-then-left-n c =
    let a = c.args in
    page_long a.client a.times a.event.now a.listed a.class a.hits.now _ c.size_of-w.ensures.says _ _ c.in-Some.ensures c.if-left-n.true

pub put_what-e-requires : goal.put_what-e-requires
put_what-e-requires c =
    let a = c.args in
    what_room a.client a.times a.event.now a.listed a.class a.hits.now _ c.size_of-w.ensures.says _ _ c.in-Some.ensures c.if-left-n.false
    c.put_head.ensures

pub put_found-requires : goal.put_found-requires
put_found-requires c =
    let a = c.args in
    found_room a.client a.times a.event.now a.listed a.class a.hits.now _ c.size_of-w.ensures.says _ _ c.in-Some.ensures c.if-left-n.false
    c.put_head.ensures c.put_what-e.ensures

pub returns : goal.returns
returns c =
    let a = c.args in
    page_done a.client a.times a.event.now a.listed a.class a.hits.now _ c.size_of-w.ensures.says _ _ c.in-Some.ensures c.if-left-n.false
    c.put_head.ensures c.put_what-e.ensures c.put_found.ensures
