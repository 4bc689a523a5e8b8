-- There is room for the bytes.
use Rattle.codec.proofs.Puts.{put_fits}
use Rattle.page_lines.proofs.BytesSays.put.Goals as goal

pub returns : goal.returns
returns c = put_fits c.put_bytes.ensures c.requires
