-- Paper 01, "The header text": writing. The writer takes the same fields and refuses with the same numbers 6 to 11 in the same
-- order, then 13.
use Rattle.std.specs.Prelude.{ℕ, List, [], ◌∷◌, ◌++◌, length, ltb}
use Rattle.laws.specs.Order.{Said, granted, refused, Row, ◌when◌, in_order}
use Rattle.header.specs.Header.{Alert, header, parts_of, text_of}

abbrev pub write_rows : Alert → ℕ → List (Row (Said ℕ))
write_rows a room = header.faults (parts_of a) ++ (refused 13 when ltb room (length (text_of a)) ∷ [])

-- how many bytes are written, or the number
unfoldable pub write_says : Alert → ℕ → Said ℕ
write_says a room = in_order (write_rows a room) (granted (length (text_of a)))
