-- What the calls that put a page's lines promise: `size_of` this, the others the PutPromise of `codec` for their text.
use Rattle.std.specs.Prelude.{ℕ, ◌≡◌}
use Rattle.laws.specs.Numbers.{size}

pub record SizePromise (n r : ℕ) : Type 0 where
  pub says : r ≡ size n
