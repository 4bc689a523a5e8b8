-- The entry of a day that its year has is one of the table's; month and day are its two parts.
use mathlib.Core.Path.{ap, ◌∙◌}
use native.Mathlib.Omega.{arith}
use Rattle.clock.specs.Calendar.{calendar, split, date_of}
use Rattle.clock.proofs.Dates.{entry_low}
use Rattle.clock.proofs.calendar.date_in.Goals as goal

pub entry-requires : goal.entry-requires
entry-requires c = let l = entry_low c.args.year c.args.day c.requires in omega (arith, l, c.entry_of.ensures)

pub returns : goal.returns
unfolding date_of
returns c = ap split (c.from-x.ensures ∙ c.entry.ensures ∙ ap calendar c.entry_of.ensures)
