-- What is read of the line's bytes is what the next line says.
use Rattle.std.proofs.Common.{ap, ◌∙◌, arith}
use Rattle.input_lines.specs.Answers.{now_parts, with_index, said_as}
use Rattle.input_lines.specs.Forms.{now_kind, now_line}
use Rattle.input_lines.specs.Steps.{form_of}
use Rattle.input_lines.proofs.Fixed.{now_clean, read_says}
use Rattle.input_lines.proofs.now_line.Goals as goal

pub returns : goal.returns
unfolding now_line
returns c =
    record {
      says =
          ap (said_as (with_index now_parts)) c.ok_or.ensures.value
          ∙ read_says now_kind now_clean (omega arith) _ _ now_parts _ (λ o p. p.says.met ∙ ap (form_of now_line) p.shows) _ c.fixed_line.ensures;
    }
