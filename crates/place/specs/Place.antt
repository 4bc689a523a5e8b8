-- Paper 01, "Place matching", and paper 02, §6.
use Rattle.std.specs.Prelude.{ℕ, ◌/◌, ◌%◌, Bool, not, ◌&&◌, ◌||◌, List, eqb}
use Rattle.laws.specs.Lists.{some}

-- a place PSSCCC is P (part), SS (state), CCC (county)
abbrev pub part : ℕ → ℕ
part place = place / 100000

abbrev pub state : ℕ → ℕ
state place = place / 1000 % 100

abbrev pub county : ℕ → ℕ
county place = place % 1000

-- equal, or either is 0
abbrev pub meet : ℕ → ℕ → Bool
meet a b = eqb a b || (eqb a 0 || eqb b 0)

-- SS is equal, CCC is equal or either is 000, and P is equal or either is 0
abbrev pub match_by_parts : ℕ → ℕ → Bool
match_by_parts watched sent =
    eqb (state watched) (state sent)
    && (meet (county watched) (county sent)
    && meet (part watched) (part sent))

-- a header place of six zeros matches every place; any other whose SS is 00 matches none
unfoldable pub matches : ℕ → ℕ → Bool
matches watched sent = eqb sent 0 || (not (eqb (state sent) 0) && match_by_parts watched sent)

-- it matches at least one of some places
unfoldable pub matches_some : ℕ → List ℕ → Bool
matches_some watched sent = some (matches watched) sent
