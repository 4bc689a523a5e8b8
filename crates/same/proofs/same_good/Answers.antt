-- The one test of the book decides between 0 and 16.
use mathlib.Core.Path.{sym, ◌∙◌}
use Rattle.c_answers.proofs.Instances.{told_edited}
use Rattle.same.proofs.same_good.Goals as goal

pub returns-then-is_good : goal.returns-then-is_good
returns-then-is_good c =
    let b = sym c.is_good.ensures.says ∙ c.if-is_good.true in
    record { says = (told_edited c.told.ensures).says ∙ rw b }

pub returns : goal.returns
returns c =
    let b = sym c.is_good.ensures.says ∙ c.if-is_good.false in
    record { says = (told_edited c.told-2.ensures).says ∙ rw b }
