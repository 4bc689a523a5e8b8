-- The count of dropped bytes stands beside 0, since stripping is never refused.
use mathlib.Core.Path.{ap, ◌∙◌}
use Rattle.laws.specs.Order.{granted}
use Rattle.c_answers.specs.Answer.{in_halves}
use Rattle.c_answers.proofs.Instances.{told_size}
use Rattle.same.proofs.same_strip.Goals as goal

pub returns : goal.returns
returns c = record { says = told_size c.told.ensures ∙ ap (λ n. in_halves (granted n)) c.leading.ensures.says }
