-- A first word with its parts in bits of their own, so that they are read by shifts: the state above bit 14, the county in ten bits,
-- the part in four.
use Rattle.std.specs.Prelude.{ℕ, ◌+◌, ◌*◌, ◌/◌, ◌%◌, Bool, not, ◌&&◌, ◌||◌, List, eqb}
use Rattle.laws.specs.Lists.{some}
use Rattle.place.specs.Place.{meet}
use Rattle.place.specs.FirstWord.{first_word}

unfoldable pub packed : ℕ → ℕ
packed word = word / 10000 % 100 * 16384 + word / 10 % 1000 * 16 + word % 10

-- of a place
unfoldable pub packed_place : ℕ → ℕ
packed_place place = packed (first_word place)

-- two packed places match, by the rule of places: first by their parts, then with what was sent without a state
abbrev pub packed_by_parts : ℕ → ℕ → Bool
packed_by_parts watched sent =
    eqb (watched / 16384) (sent / 16384)
    && (meet (watched / 16 % 1024) (sent / 16 % 1024)
    && meet (watched % 16) (sent % 16))

unfoldable pub packed_match : ℕ → ℕ → Bool
packed_match watched sent = eqb sent 0 || (not (eqb (sent / 16384) 0) && packed_by_parts watched sent)

unfoldable pub packed_match_some : ℕ → List ℕ → Bool
packed_match_some watched sent = some (packed_match watched) sent
