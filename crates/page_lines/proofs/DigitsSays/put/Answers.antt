-- There is room for the digits.
use Rattle.codec.proofs.Puts.{put_fits}
use Rattle.page_lines.proofs.DigitsSays.put.Goals as goal

pub returns : goal.returns
returns c = put_fits c.put_count.ensures c.requires
