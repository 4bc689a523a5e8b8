-- Hours and minutes are the quotient and the rest by 60; that they fit two digits each adds nothing.
use mathlib.Core.Path.{sym, ◌∙◌}
use Rattle.header.proofs.Allowed.{duration_ok}
use Rattle.header.proofs.is_duration.Goals as goal

pub returns : goal.returns
returns c = record { says = c.is_duration_of.ensures.says ∙ sym (duration_ok _) }
