-- The table is its rule at each of 366 entries, which antt computes.
use Rattle.laws.proofs.Tables.{tabled}
use Rattle.clock.specs.Calendar.{calendar, dated}
use Rattle.clock.proofs.calendar.entry.Goals as goal

pub returns : goal.returns
unfolding dated
returns c = tabled calendar 366 c.args.i c.requires
