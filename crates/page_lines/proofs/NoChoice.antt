-- The promise of `size_of` leaves no choice; that of the others is `codec`'s.
use Prim.Native.Nat.{ℕ}
use mathlib.Core.Path.{◌≡◌, sym, ◌∙◌}
use Rattle.page_lines.specs.Promise.{SizePromise}

pub size_of_no_choice : {n r r' : ℕ} → SizePromise n r → SizePromise n r' → r ≡ r'
size_of_no_choice p q = p.says ∙ sym q.says
