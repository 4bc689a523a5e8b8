-- Paper 01, "The report program": the next line of a text. Any other form, or a missing line, is 23.
use Rattle.std.specs.Prelude.{ℕ, ◌+◌, ◌-◌, List, [], ◌∷◌, length, drop}
use Rattle.laws.specs.Order.{Said, granted, refused, choose, next}
use Rattle.input_lines.specs.Lines.{pieces, LineForm, is_line}
use Rattle.input_lines.specs.Forms.{header_word, header_line}

-- the first of some pieces, which stands at index at, as a line of the form f: what it says, and the index after its byte 10. The last
-- piece has no byte 10, and is no line
unfoldable pub first_of : {A : Type 0} → LineForm A → ℕ → List (List ℕ) → Said (A × ℕ)
first_of f at [] = refused 23
first_of f at (l ∷ []) = refused 23
first_of f at (l ∷ (m ∷ ls)) = choose (is_line f l) (granted (f.value l, at + length l + 1)) (refused 23)

-- the next line of a text, from index at on
unfoldable pub next_of : {A : Type 0} → LineForm A → List ℕ → ℕ → Said (A × ℕ)
next_of f text at = first_of f at (pieces (drop at text))

-- where the header of such a line stands: from the byte after its `=` up to its byte 10, and the index after that
abbrev pub stands_at : ℕ → List ℕ × ℕ → ℕ × (ℕ × ℕ)
stands_at at (header, after) = (at + length header_word, (after - 1, after))

unfoldable pub header_at : List ℕ → ℕ → Said (ℕ × (ℕ × ℕ))
header_at text at = next (next_of header_line text at) (λ line. granted (stands_at at line))
