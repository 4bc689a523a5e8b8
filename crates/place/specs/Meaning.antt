-- Paper 01, "Place matching", and paper 02, §6, as propositions: what a yes and a no of `matches` mean.
use Rattle.std.specs.Prelude.{ℕ, ◌≡◌, ◌⊎◌}
use Rattle.place.specs.Place.{part, state, county}

-- equal, or either is 0
abbrev pub Meet : ℕ → ℕ → Type 0
Meet a b = (a ≡ b) ⊎ ((a ≡ 0) ⊎ (b ≡ 0))

-- SS is equal, CCC is equal or either is 000, and P is equal or either is 0
pub record ByParts (watched sent : ℕ) : Type 0 where
  pub states : state watched ≡ state sent
  pub counties : Meet (county watched) (county sent)
  pub parts : Meet (part watched) (part sent)

-- six zeros were sent; or a state was, and the three hold
pub data Match (watched sent : ℕ) : Type 0 where
  whole_country : sent ≡ 0 → Match watched sent
  by_parts : (state sent ≡ 0 → ⊥) → ByParts watched sent → Match watched sent
