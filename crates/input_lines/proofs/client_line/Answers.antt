-- What is read of the line's bytes is what the next line says.
use Rattle.std.proofs.Common.{ap, ◌∙◌, arith}
use Rattle.refusals.specs.Refusals.{said}
use Rattle.input_lines.specs.Forms.{client_kind, client_line}
use Rattle.input_lines.specs.Steps.{form_of}
use Rattle.input_lines.proofs.Fixed.{client_clean, read_plain}
use Rattle.input_lines.proofs.client_line.Goals as goal

pub returns : goal.returns
unfolding client_line
returns c =
    record {
      says =
          ap said c.ok_or.ensures.value
          ∙ read_plain client_kind client_clean (omega arith) _ _ _ (λ o p. p.says.met ∙ ap (form_of client_line) p.shows) _ c.fixed_line.ensures;
    }
