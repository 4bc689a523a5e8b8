-- Fewer than 50 words of fields are 13; else the writer answers for the fields that the first 50 say.
use mathlib.Core.Path.{refl, ◌∙◌}
use Rattle.c_words.proofs.Filled.{front_fields}
use Rattle.c_words.proofs.Pastes.{writes_few, writes_all}
use Rattle.c_words.proofs.write_fields.Goals as goal

pub returns-in_default : goal.returns-in_default
returns-in_default c = writes_few c.args.fields.now c.args.out.now _ (c.in_default.ensures {u = tt}).cases refl

pub returns : goal.returns
returns c =
    let k = (c.in-Some.ensures {u = tt}).cases in
    writes_all c.args.fields.now c.args.out.now _ _ k.enough (c.fields_in.ensures ∙ front_fields c.args.fields.now _ k.same) c.write.ensures
