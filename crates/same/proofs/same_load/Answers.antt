-- The book is `load`'s; its answer names nothing where it is granted, so the book it built falls out of the halves.
use mathlib.Core.Path.{ap, ◌∙◌}
use Rattle.c_answers.specs.Answer.{in_halves, bare}
use Rattle.c_answers.proofs.Packs.{bare_again}
use Rattle.c_answers.proofs.Instances.{told_edited}
use Rattle.book_rules.specs.Form.{form}
use Rattle.book_rules.specs.Load.{load_says}
use Rattle.same.proofs.same_load.Goals as goal

pub returns : goal.returns
returns c =
    let done = c.load.ensures in
    record {
      says = (told_edited c.told.ensures).says ∙ ap (λ s. in_halves (bare s)) done.says ∙ ap in_halves (bare_again (load_says form _ _));
      space = done.lent;
    }
