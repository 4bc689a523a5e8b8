-- The first part that is wrong refuses the line, and four right ones are the answer.
use Rattle.std.proofs.Common.{sym, ap, ◌∙◌}
use Rattle.std.specs.Option.{option_map}
use Rattle.input_lines.specs.Answers.{now_parts}
use Rattle.input_lines.proofs.Forms.{now_1, now_2, now_3, now_4, now_5}
use Rattle.input_lines.proofs.now_of.Goals as goal

pub returns-in_err-year : goal.returns-in_err-year
returns-in_err-year c = ap (option_map now_parts) c.from_residual.ensures ∙ now_1 _ c.requires (sym c.in_err-year.ensures)

pub returns-in_err-day : goal.returns-in_err-day
returns-in_err-day c = ap (option_map now_parts) c.from_residual-in_err-day.ensures ∙ now_2 _ c.requires (sym c.in_err-day.ensures)

pub returns-in_err-hour : goal.returns-in_err-hour
returns-in_err-hour c = ap (option_map now_parts) c.from_residual-in_err-hour.ensures ∙ now_3 _ c.requires (sym c.in_err-hour.ensures)

pub returns-in_err-minute : goal.returns-in_err-minute
returns-in_err-minute c = ap (option_map now_parts) c.from_residual-in_err-minute.ensures ∙ now_4 _ c.requires (sym c.in_err-minute.ensures.says)

pub returns : goal.returns
returns c =
    now_5 _ c.requires _ _ _ _ (sym c.in_ok-year.ensures) (sym c.in_ok-day.ensures) (sym c.in_ok-hour.ensures) (sym c.in_ok-minute.ensures.says)
