-- The word and its digits are all that the line says.
use Rattle.std.proofs.Common.{sym}
use Rattle.input_lines.proofs.Forms.{client_is}
use Rattle.input_lines.proofs.client_of.Goals as goal

pub returns : goal.returns
returns c = client_is _ c.requires _ (sym c.tagged.ensures)
