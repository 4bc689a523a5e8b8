-- What is said once the first three lines are read is what the input says; a malformed one says 23.
use Rattle.std.proofs.Common.{refl, sym}
use Rattle.page.proofs.Pages.{prints_refused, prints_page}
use Rattle.page.proofs.page.Goals as goal

pub returns-in-Ok : goal.returns-in-Ok
returns-in-Ok c = prints_page _ _ c.in-Ok.ensures.0 c.page_of.ensures

pub returns-in-Err : goal.returns-in-Err
returns-in-Err c =
    prints_page _ _ refl (prints_refused _ _ (sym c.in-Err.ensures) _ c.number.ensures.says c.print_refusal.ensures)
