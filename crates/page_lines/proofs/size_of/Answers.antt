-- One digit more than the power of ten at or below the number.
use Rattle.std.proofs.Common.{ap, ◌+◌, ◌∙◌}
use Rattle.page_lines.proofs.Sizes.{size_by_power}
use Rattle.page_lines.proofs.size_of.Goals as goal

pub returns : goal.returns
returns c =
    let k = c.checked_ilog10.ensures in
    record { says = ap (λ w. w + 1) c.unwrap_or.ensures ∙ size_by_power _ _ k.none k.power_le k.next_power_gt }
