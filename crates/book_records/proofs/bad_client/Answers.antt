-- In the range is within its ends.
use mathlib.Core.Path.{ap, ◌∙◌}
use mathlib.Core.Bool.{not}
use Rattle.book_rules.specs.Form.{bad_client}
use Rattle.book_records.proofs.Within.{contains_within}
use Rattle.book_records.proofs.bad_client.Goals as goal

pub returns : goal.returns
unfolding bad_client
returns c =
    let n = c.new.ensures in
    record { says = ap not (c.contains.ensures.value ∙ contains_within c.new.result 1 9999 c.args.client n.start n.end n.exhausted) }
