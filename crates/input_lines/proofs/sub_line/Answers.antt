-- What is read of the line's bytes is what the next line says.
use Rattle.std.proofs.Common.{ap, ◌∙◌, arith}
use Rattle.input_lines.specs.Answers.{sub_parts, with_index, said_as}
use Rattle.input_lines.specs.Forms.{sub_kind, sub_line}
use Rattle.input_lines.specs.Steps.{form_of}
use Rattle.input_lines.proofs.Fixed.{sub_clean, read_says}
use Rattle.input_lines.proofs.sub_line.Goals as goal

pub returns : goal.returns
unfolding sub_line
returns c =
    record {
      says =
          ap (said_as (with_index sub_parts)) c.ok_or.ensures.value
          ∙ read_says sub_kind sub_clean (omega arith) _ _ sub_parts _ (λ o p. p.says.met ∙ ap (form_of sub_line) p.shows) _ c.fixed_line.ensures;
    }
