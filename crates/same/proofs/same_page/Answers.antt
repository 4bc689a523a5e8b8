-- The page is `page`'s, with its answer in halves; what it leaves is handed on as it is.
use mathlib.Core.Path.{ap, ◌∙◌}
use Rattle.c_answers.specs.Answer.{in_halves}
use Rattle.c_answers.proofs.Instances.{told_size}
use Rattle.same.proofs.same_page.Goals as goal

pub returns : goal.returns
returns c =
    let paged = c.page.ensures in
    record { says = told_size c.told.ensures ∙ ap in_halves paged.says; space = paged.lent }
