-- The places from k on are left to write: their text, pasted at index at + 7 k, gives the whole.
use Prim.Native.Nat.{◌+◌, ◌*◌, ◌≤◌}
use lib.ListN.{length, drop}
use Rattle.laws.specs.Space.{pasted}
use Rattle.laws.proofs.Pasted.{Todo}
use Rattle.header_writing.specs.Steps.{places_text}
use Rattle.header_writing.proofs.put_places.Given as goal

abbrev pub invariant-loop-k : goal.invariant-loop-k
invariant-loop-k l =
    (l.k ≤ length l.codes) × Todo l.initial.out (pasted l.initial.out l.at (places_text l.codes)) l.out (l.at + 7 * l.k) (places_text (drop l.k l.codes))
