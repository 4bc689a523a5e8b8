-- The edit is `remove`'s, with its answer in halves; the book it leaves is handed on as it is.
use mathlib.Core.Path.{ap, ◌∙◌}
use Rattle.c_answers.specs.Answer.{in_halves, bare}
use Rattle.c_answers.proofs.Instances.{told_edited}
use Rattle.same.proofs.same_remove.Goals as goal

pub returns : goal.returns
returns c =
    let done = c.remove.ensures in
    record { says = (told_edited c.told.ensures).says ∙ ap (λ s. in_halves (bare s)) done.says; space = done.lent }
