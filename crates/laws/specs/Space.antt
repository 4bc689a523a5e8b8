-- Lent space after a call. Paper 01, "Numbers and what they leave": every refusal leaves all lent space as found;
-- success writes the named bytes or words and no others.
use Rattle.std.specs.Prelude.{ℕ, ◌+◌, List, ◌++◌, length, take, drop}
use Rattle.laws.specs.Order.{Said, granted, refused, refused_at}

-- d, with s in the place of what stood there from index at on; everything else as found
unfoldable pub pasted : {A : Type 0} → List A → ℕ → List A → List A
pasted d at s = take at d ++ (s ++ drop (at + length s) d)

-- what a call leaves in space that held d: what its effect makes of d where it was granted, and d where it was refused
abbrev pub leaves : {A B : Type 0} → (A → B → B) → Said A → B → B
leaves effect (granted a) d = effect a d
leaves effect (refused n) d = d
leaves effect (refused_at n i) d = d
