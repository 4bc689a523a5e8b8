-- The page of the report's summary and of the hits that stand in front, or its number.
use Rattle.std.proofs.Common.{◌*◌, ◌≤◌, length, sym, arith}
use Rattle.std.proofs.lemmas.List.{length-take-le}
use Rattle.page.proofs.Finishes.{no_report, with_report}
use Rattle.page.proofs.Pages.{prints_refused, prints_shown}
use Rattle.page.proofs.print_report.Goals as goal

-- the hits' pairs stand inside the lent words
inside : (c : goal.In-Ok) → 2 * c.in-Ok.s.hits ≤ length c.report.new.out
inside c = (with_report _ _ _ _ c.args.hits.now c.requires _ _ c.in-Ok.ensures).3

pub overflow_mul-hits : goal.overflow_mul-hits
overflow_mul-hits c = omega (arith, inside c)

pub slice_bounds-hits-end : goal.slice_bounds-hits-end
slice_bounds-hits-end c = inside c

pub slice_bounds-hits-end-in-Ok : goal.slice_bounds-hits-end-in-Ok
slice_bounds-hits-end-in-Ok c = sym (length-take-le _ _ (inside c))

pub returns-in-Ok : goal.returns-in-Ok
returns-in-Ok c = prints_shown _ _ _ _ (with_report _ _ _ _ c.args.hits.now c.requires _ _ c.in-Ok.ensures) c.print_page.ensures

pub returns-in-Err : goal.returns-in-Err
returns-in-Err c =
    prints_refused _ _ (no_report _ _ _ _ c.args.hits.now c.requires _ _ c.in-Err.ensures) _ c.number.ensures.says c.print_refusal.ensures
