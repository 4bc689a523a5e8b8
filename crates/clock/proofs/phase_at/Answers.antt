-- A clock in range is a time of its year, so its minute can be counted.
use Rattle.clock.proofs.Ranges.{clock_of_year}
use Rattle.clock.proofs.phase_at.Goals as goal

pub minute_of-requires : goal.minute_of-requires
minute_of-requires c = clock_of_year c.args.at c.requires
