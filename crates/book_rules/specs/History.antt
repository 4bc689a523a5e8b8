-- Demand 3: any run of additions and removals, granted or refused, in the order of time.
use Rattle.std.specs.Prelude.{ℕ, Bool, not, List, [], ◌∷◌, length, leb}
use Rattle.laws.specs.Order.{Said, granted, Row, in_order}
use Rattle.laws.specs.Lists.{some, keep}
use Rattle.laws.specs.Space.{leaves}
use Rattle.book_rules.specs.Form.{Form}
use Rattle.book_rules.specs.Rules.{empty}
use Rattle.book_rules.specs.Edits.{adding_rows, removing_rows, add_says, added, remove_says, removed}
use Rattle.book_rules.specs.Subscription.{Sub, sub, is_pair}

pub data Edit : Type 0 where
  adds : ℕ → ℕ → ℕ → Edit
  removes : ℕ → ℕ → Edit

-- ---- the book: what the calls say and leave

unfoldable pub answer : Form → List ℕ → Edit → Said (Unit {0})
answer f w (adds place client wish) = add_says f w place client wish
answer f w (removes place client) = remove_says f w place client

unfoldable pub edited : Form → List ℕ → Edit → List ℕ
edited f w (adds place client wish) = leaves (λ u. added f place client wish) (add_says f w place client wish) w
edited f w (removes place client) = leaves (λ u. removed f place client) (remove_says f w place client) w

-- a book after a run, and the empty book after it
unfoldable pub after : Form → List ℕ → List Edit → List ℕ
after f w [] = w
after f w (e ∷ run) = after f (edited f w e) run

unfoldable pub book_after : Form → List Edit → List ℕ
book_after f run = after f empty run

-- ---- the edits alone, with no book: what stands, and the number that an edit then gets

unfoldable pub stands_in : ℕ → ℕ → List Sub → Bool
stands_in place client list = some (is_pair place client) list

unfoldable pub full_of : List Sub → Bool
full_of list = leb 4096 (length list)

-- the same rows as of a call on a book, but for 16
abbrev pub edit_rows : List Sub → Edit → List (Row (Said (Unit {0})))
edit_rows list (adds place client wish) = adding_rows place client wish (stands_in place client list) (full_of list)
edit_rows list (removes place client) = removing_rows place client (stands_in place client list)

unfoldable pub number : List Sub → Edit → Said (Unit {0})
number list e = in_order (edit_rows list e) (granted tt)

-- what a granted edit makes of what stands
abbrev pub effect : Edit → List Sub → List Sub
effect (adds place client wish) list = sub place client wish ∷ list
effect (removes place client) list = keep (λ x. not (is_pair place client x)) list

-- what stands after a run, where some stood before it, and where none did
unfoldable pub standing_from : List Sub → List Edit → List Sub
standing_from list [] = list
standing_from list (e ∷ run) = standing_from (leaves (λ u. effect e) (number list e) list) run

unfoldable pub standing : List Edit → List Sub
standing run = standing_from [] run
