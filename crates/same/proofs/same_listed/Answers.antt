-- The three letters are asked in their order; yes is 1 and no is 0.
use mathlib.Core.Path.{ap, ◌∙◌}
use Rattle.laws.specs.Lists.{one}
use Rattle.same.proofs.same_listed.Goals as goal

pub returns : goal.returns
returns c = record { says = c.yes.ensures.says ∙ ap one c.is_listed.ensures.says }
