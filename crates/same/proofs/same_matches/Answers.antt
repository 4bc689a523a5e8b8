-- The watched place comes first, then the one sent; yes is 1 and no is 0.
use mathlib.Core.Path.{ap, ◌∙◌}
use Rattle.laws.specs.Lists.{one}
use Rattle.same.proofs.same_matches.Goals as goal

pub returns : goal.returns
returns c = record { says = c.yes.ensures.says ∙ ap one c.matches.ensures.says }
