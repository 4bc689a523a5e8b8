-- What is not found is not listed, and goes by its third letter.
use mathlib.Core.Path.{◌∙◌, sym}
use Rattle.event.specs.Events.{code}
use Rattle.event.proofs.Named.{unlisted_class}
use Rattle.event.proofs.listed_class.Goals as goal

pub returns-in-None : goal.returns-in-None
returns-in-None c =
    let a = c.args in
    let no = c.in-None.ensures in
    record { listed = sym no; class = c.class_by_third.ensures ∙ sym (unlisted_class (code a.a a.b a.c) no) }
