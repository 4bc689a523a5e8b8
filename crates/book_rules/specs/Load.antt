-- Paper 01, "The book": a load takes a list of words, three an item, and equals adding each in order to an empty book.
use Rattle.std.specs.Prelude.{ℕ, List, [], ◌∷◌}
use Rattle.laws.specs.Order.{Said, granted, in_order, next}
use Rattle.book_rules.specs.Form.{Form}
use Rattle.book_rules.specs.Subscription.{Sub, sub}
use Rattle.book_rules.specs.Rules.{empty}
use Rattle.book_rules.specs.Edits.{book_row, add_says, added}

-- PSSCCC, client, wish; one or two words left over are not read
abbrev pub items : List ℕ → List Sub
items [] = []
items (p ∷ []) = []
items (p ∷ c ∷ []) = []
items (p ∷ c ∷ v ∷ words) = sub p c v ∷ items words

-- adding each in order to a book: the book after all, or the first refusal
unfoldable pub add_all : Form → List ℕ → List Sub → Said (List ℕ)
add_all f w [] = granted w
add_all f w (x ∷ xs) = next (add_says f w x.place x.client x.wish) (λ u. add_all f (added f x.place x.client x.wish w) xs)

-- 16, then each item's
unfoldable pub load_says : Form → List ℕ → List ℕ → Said (List ℕ)
load_says f w list = in_order (book_row f w) (add_all f empty (items list))
