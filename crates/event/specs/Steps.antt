-- Steps of the code: the list as rows of bytes, and what the search finds.
use Rattle.std.specs.Prelude.{ℕ, true, false, List, map, ◌≡◌, Option, MatchOption}
use Rattle.laws.specs.Text.{ascii}
use Rattle.event.specs.Events.{events, is_listed}
use Rattle.event.specs.Class.{class_of}

-- the list as the table has it
unfoldable pub codes : List (List ℕ)
codes = map ascii events

-- the class of the code e, where e is listed
abbrev pub Found : List ℕ → Option ℕ → Type 0
Found e r = MatchOption r (is_listed e ≡ false) (λ class. (is_listed e ≡ true) × (class ≡ class_of e))
