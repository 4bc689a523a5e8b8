-- What the calls that print promise. Paper 01, "Numbers and what they leave".
use Rattle.std.specs.Prelude.{ℕ, ◌≡◌, List, [], ◌∷◌, Result, length, ltb}
use Rattle.laws.specs.Order.{Said, granted, refused, ◌when◌, in_order}
use Rattle.laws.specs.Space.{pasted, leaves}
use Rattle.refusals.specs.Refusals.{said}
use Rattle.refusals.specs.declared.Refusal.{Refusal}

-- 13: the lent space is smaller than the text
unfoldable pub print_says : List ℕ → ℕ → Said ℕ
print_says text room =
    in_order
    (
    refused 13 when ltb room (length text)
    ∷ []
    )
    (granted (length text))

-- printing a text into lent space that holds d, and then d'
pub record PrintPromise (text d : List ℕ) (r : Result ℕ Refusal) (d' : List ℕ) : Type 0 where
  pub says : said r ≡ print_says text (length d)
  pub space : d' ≡ leaves (λ n s. pasted s 0 text) (print_says text (length d)) d
