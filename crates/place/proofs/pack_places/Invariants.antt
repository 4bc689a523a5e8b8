-- The places so far are packed, and the others are as found.
use mathlib.Core.Path.{◌≡◌}
use mathlib.Core.List.{◌++◌, map}
use lib.ListN.{take, drop}
use Rattle.place.specs.Packed.{packed_place}
use Rattle.place.proofs.pack_places.Given as goal

abbrev pub invariant-loop-place : goal.invariant-loop-place
invariant-loop-place l =
    l.places ≡ map packed_place (take l.place-index l.initial.places) ++ drop l.place-index l.initial.places
