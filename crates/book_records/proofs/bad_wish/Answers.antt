-- In the range is within its ends.
use mathlib.Core.Path.{ap, ◌∙◌}
use mathlib.Core.Bool.{not}
use Rattle.book_rules.specs.Form.{bad_wish}
use Rattle.book_records.proofs.Within.{contains_within}
use Rattle.book_records.proofs.bad_wish.Goals as goal

pub returns : goal.returns
unfolding bad_wish
returns c =
    let n = c.new.ensures in
    record { says = ap not (c.contains.ensures.value ∙ contains_within c.new.result 1 63 c.args.wish n.start n.end n.exhausted) }
