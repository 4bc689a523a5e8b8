-- What the calls from outside say where the crates below have no name for it.
use Rattle.std.specs.Prelude.{ℕ, List}
use Rattle.laws.specs.Order.{Said, granted, in_order}
use Rattle.book_rules.specs.Form.{form}
use Rattle.book_rules.specs.Edits.{book_row}
use Rattle.burst.specs.Strip.{lead}

-- how many bytes the stripping drops; it never refuses
abbrev pub strip_says : List ℕ → Said ℕ
strip_says burst = granted (lead burst)

-- 16, or nothing
abbrev pub good_says : List ℕ → Said ℕ
good_says w = in_order (book_row form w) (granted 0)
