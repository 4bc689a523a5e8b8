-- Ranks by a record's words: (first word, client) as one number, none where the words are out of range.
use Rattle.std.specs.Prelude.{ℕ, Option, None, Some}
use Rattle.laws.specs.Order.{choose}
use Rattle.book_rules.specs.Form.{form}
use Rattle.book_rules.specs.Rules.{Rec, ok_rec}
use Rattle.book_rules.specs.Steps.{rank}

-- the rank of a record in range, and none for another
unfoldable pub rank_or_none : Rec → Option ℕ
rank_or_none r = choose (ok_rec form r) (Some (rank form r)) None
