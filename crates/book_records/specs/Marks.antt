-- The second word of a record by client and wish, none where one of them is out of range.
use Rattle.std.specs.Prelude.{ℕ, ◌||◌, Option, None, Some}
use Rattle.laws.specs.Order.{choose}
use Rattle.book_rules.specs.Form.{form, bad_client, bad_wish}

-- the second word of a client and a wish in range, and none for others
unfoldable pub mark_or_none : ℕ → ℕ → Option ℕ
mark_or_none client wish = choose (bad_client client || bad_wish wish) None (Some (form.made client wish))
