-- The line stands there, since there is room for it; the index after it by its length.
use native.Mathlib.Omega.{arith}
use Rattle.codec.proofs.Puts.{put_fits}
use Rattle.page_lines.proofs.Room.{line_length}
use Rattle.page_printing.proofs.put_line.Goals as goal

pub returns : goal.returns
returns c =
    record {
      space = put_fits c.put_text.ensures c.requires;
      next = omega (arith, line_length c.args.word.now c.args.says.now);
    }
