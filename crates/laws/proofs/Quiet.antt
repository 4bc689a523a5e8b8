-- No row holds in two groups one after the other exactly where none holds in either.
use mathlib.Core.Bool.{Bool, true, not}
use mathlib.Core.List.{List, [], ◌∷◌, ◌++◌}
use mathlib.Core.Path.{◌≡◌, ap}
use Rattle.laws.specs.Order.{Row, ◌when◌, Quiet, none, more}
use Rattle.laws.proofs.Tests.{not_not}

pub quiet_left : {A : Type 0} (p q : List (Row A)) → Quiet (p ++ q) → Quiet p
quiet_left [] q k = none
quiet_left (r ∷ p) q (more e k) = more e (quiet_left p q k)

pub quiet_right : {A : Type 0} (p q : List (Row A)) → Quiet (p ++ q) → Quiet q
quiet_right [] q k = k
quiet_right (r ∷ p) q (more e k) = quiet_right p q k

-- a single row that says something where a test fails
pub quiet_one : {A : Type 0} {a : A} {b : Bool} → b ≡ true → Quiet (a when not b ∷ [])
quiet_one e = more (ap not e) none

pub one_quiet : {A : Type 0} {a : A} {b : Bool} → Quiet (a when not b ∷ []) → b ≡ true
one_quiet {b = b} (more e none) = not_not b e
