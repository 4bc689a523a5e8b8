-- The word decides, and behind it the digits.
use Rattle.std.proofs.Common.{sym, ◌∙◌}
use Rattle.input_lines.proofs.Tags.{word_is, tag_no, tag_yes}
use Rattle.input_lines.proofs.tagged.Goals as goal

pub returns-then-not-starts_with : goal.returns-then-not-starts_with
returns-then-not-starts_with c =
    let a = c.args in
    tag_no _ _ _ _ (sym (c.if-not-starts_with.ensures.value ∙ word_is a.word.now a.line.now a.at))

pub returns : goal.returns
returns c =
    let a = c.args in
    c.digits_at.ensures.says ∙ tag_yes _ _ _ _ (sym (c.if-not-starts_with.ensures.value ∙ word_is a.word.now a.line.now a.at))
