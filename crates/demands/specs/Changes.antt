-- Demand 3 with loads: any run of additions, removals and loads, granted or refused, and what then stands. No book is looked at.
use Rattle.std.specs.Prelude.{ℕ, List, [], ◌∷◌}
use Rattle.laws.specs.Order.{Said, granted, next}
use Rattle.laws.specs.Space.{leaves}
use Rattle.book_rules.specs.Subscription.{Sub}
use Rattle.book_rules.specs.Load.{items}
use Rattle.book_rules.specs.History.{Edit, number, effect}
use Rattle.book_history.specs.Adding.{additions}

pub data Change : Type 0 where
  edits : Edit → Change
  loads : List ℕ → Change

-- some edits one after the other: granted, or the number of the first that is refused, each by what then stands
unfoldable pub numbers : List Sub → List Edit → Said (Unit {0})
numbers list [] = granted tt
numbers list (e ∷ run) = next (number list e) (λ u. numbers (effect e list) run)

-- a load adds each of its items in order to an empty book
unfoldable pub load_number : List ℕ → Said (Unit {0})
load_number words = numbers [] (additions (items words))

-- the number that a change gets where these stand
abbrev pub change_number : List Sub → Change → Said (Unit {0})
change_number list (edits e) = number list e
change_number list (loads words) = load_number words

-- what a granted change makes of what stands: the items of a load stand in the place of all that stood
abbrev pub changed : Change → List Sub → List Sub
changed (edits e) list = effect e list
changed (loads words) list = items words

-- what stands after a run, where some stood before it, and where none did
unfoldable pub stood_from : List Sub → List Change → List Sub
stood_from list [] = list
stood_from list (x ∷ run) = stood_from (leaves (λ u. changed x) (change_number list x) list) run

unfoldable pub stood : List Change → List Sub
stood run = stood_from [] run
