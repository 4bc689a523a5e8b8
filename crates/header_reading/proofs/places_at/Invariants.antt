-- The loop's invariant: what is left to read, with the places read so far in front, is the whole list.
use Rattle.header_reading.proofs.Listing.{Going}
use Rattle.header_reading.proofs.places_at.Given as goal

abbrev pub invariant-loop-n : goal.invariant-loop-n
invariant-loop-n l = Going l.text l.at l.codes l.n l.i
