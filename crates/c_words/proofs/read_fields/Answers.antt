-- What was read is given as words, and a refusal is handed on.
use mathlib.Core.Path.{refl, sym, ap, ◌∙◌, subst}
use Rattle.refusals.proofs.Said.{handed_on}
use Rattle.header.specs.Answers.{said_read}
use Rattle.header.specs.declared.Fields.{Fields}
use Rattle.c_words.specs.Steps.{Gives}
use Rattle.header.proofs.Callers.{is_read, read_count}
use Rattle.c_words.proofs.Pastes.{given_read, refuses}
use Rattle.c_words.proofs.read_fields.Goals as goal

pub give-requires : goal.give-requires
give-requires c = (read_count (is_read (c.in_ok-read.ensures {u = tt}))).1

pub returns-in_err-read : goal.returns-in_err-read
returns-in_err-read c =
    refuses c.args.text.now c.args.fields.now c.in_err-read.field-0.0 c.from_residual.result (sym c.read.ensures.says ∙ ap said_read c.in_err-read.was)
    (handed_on c.in_err-read.field-0.0 c.from_residual.result c.from_residual.ensures refl)

pub returns : goal.returns
returns c =
    let i = is_read (c.in_ok-read.ensures {u = tt}) in
    given_read c.args.text.now c.args.fields.now _ c.give.result i.alert i.reads (subst (λ (f : Fields). Gives f c.args.fields.now c.give.result c.give.new.out) i.fields c.give.ensures)
