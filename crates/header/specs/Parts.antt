-- Parts of the table by name: proofs go by them.
use Rattle.std.specs.Prelude.{ℕ, List}
use Rattle.codec.specs.Codec.{Codec, field, ◌▷◌, list_of}
use Rattle.header.specs.Header.{dash, plus, place, duration, issue}

-- the list of places
unfoldable pub places : Codec (List ℕ)
places = list_of 31 8 place dash plus

-- duration and issue
unfoldable pub duration_and_issue : Codec (ℕ × (ℕ × (ℕ × ℕ)))
duration_and_issue = field 9 duration dash ▷ field 10 issue dash
