-- The expression is the voted byte by the law of whole bytes.
use Rattle.burst.proofs.Whole.{whole_byte}
use Rattle.burst.proofs.majority.Goals as goal

pub returns : goal.returns
returns c = whole_byte c.args.x c.args.y c.args.z c.ranges.x.fits c.ranges.y.fits c.ranges.z.fits
