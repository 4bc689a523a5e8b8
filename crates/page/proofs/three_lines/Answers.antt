-- Each line that is read leaves the next to say, from the index that it answers; a malformed one says 23.
use Rattle.std.proofs.Common.{sym}
use Rattle.page.proofs.Fronts.{three_err, front_1, front_2, front_3, front_4}
use Rattle.page.proofs.three_lines.Goals as goal

pub returns-in_err-at : goal.returns-in_err-at
returns-in_err-at c = three_err _ _ _ c.from_residual.ensures (front_1 _ _ c.in_err-at.ensures.says)

pub returns-in_err-client : goal.returns-in_err-client
returns-in_err-client c =
    three_err _ _ _ c.from_residual-in_err-client.ensures (front_2 _ _ _ (sym c.in_ok-at.ensures.says) _ c.in_err-client.ensures.says)

pub returns-in_err-header : goal.returns-in_err-header
returns-in_err-header c =
    three_err _ _ _ c.from_residual-in_err-header.ensures
    (front_3 _ _ _ (sym c.in_ok-at.ensures.says) _ _ (sym c.in_ok-client.ensures.says) _ c.in_err-header.ensures.says)

pub returns : goal.returns
returns c = front_4 _ _ _ (sym c.in_ok-at.ensures.says) _ _ (sym c.in_ok-client.ensures.says) _ _ _ (sym c.in_ok-header.ensures.says)
