-- The first part that is wrong refuses the line, and three right ones are the answer.
use Rattle.std.proofs.Common.{sym, ap, ◌∙◌}
use Rattle.std.specs.Option.{option_map}
use Rattle.input_lines.specs.Answers.{sub_parts}
use Rattle.input_lines.proofs.Forms.{sub_1, sub_2, sub_3, sub_4}
use Rattle.input_lines.proofs.sub_of.Goals as goal

pub returns-in_err-place : goal.returns-in_err-place
returns-in_err-place c = ap (option_map sub_parts) c.from_residual.ensures ∙ sub_1 _ c.requires (sym c.in_err-place.ensures)

pub returns-in_err-client : goal.returns-in_err-client
returns-in_err-client c = ap (option_map sub_parts) c.from_residual-in_err-client.ensures ∙ sub_2 _ c.requires (sym c.in_err-client.ensures)

pub returns-in_err-wish : goal.returns-in_err-wish
returns-in_err-wish c = ap (option_map sub_parts) c.from_residual-in_err-wish.ensures ∙ sub_3 _ c.requires (sym c.in_err-wish.ensures)

pub returns : goal.returns
returns c = sub_4 _ c.requires _ _ _ (sym c.in_ok-place.ensures) (sym c.in_ok-client.ensures) (sym c.in_ok-wish.ensures)
