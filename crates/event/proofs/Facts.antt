-- The list has 61 codes and no double, and every code has one class from 0 to 6.
use mathlib.Core.Path.{◌≡◌, refl}
use mathlib.Core.Bool.{Bool, true, false}
use mathlib.Core.List.{List}
use Prim.Native.Char.{code as letter}
use lib.Dec.{eqb}
use Prim.Native.Nat.{ℕ, ◌≤◌}
use native.Mathlib.Omega.{arith}
use lib.ListN.{length, get_or}
use Rattle.laws.specs.Order.{choose}
use Rattle.laws.specs.Text.{one_of}
use Rattle.event.specs.Events.{events, no_double}
use Rattle.event.specs.Class.{class_of, by_third}
use Rattle.event.proofs.Named.{class0, class1, class3, class5, class6}

pub sixty_one : length events ≡ 61
unfolding events
sixty_one = refl

-- no code stands twice
pub no_double_code : no_double events ≡ true
unfolding events
no_double_code = refl

-- each row says at most 6, so what is said is
row : (b : Bool) (a x : ℕ) → a ≤ 6 → x ≤ 6 → choose b a x ≤ 6
row true a x h k = h
row false a x h k = k

by_third_low : (x : ℕ) → by_third x ≤ 6
by_third_low x =
    row (eqb x (letter "W")) 1 _ (omega arith)
    (row (eqb x (letter "A")) 2 _ (omega arith)
    (row (eqb x (letter "E")) 3 _ (omega arith)
    (row (eqb x (letter "S")) 4 6 (omega arith) (omega arith))))

pub class_low : (e : List ℕ) → class_of e ≤ 6
unfolding class_of
class_low e =
    row (one_of class0 e) 0 _ (omega arith)
    (row (one_of class1 e) 1 _ (omega arith)
    (row (one_of class3 e) 3 _ (omega arith)
    (row (one_of class5 e) 5 _ (omega arith)
    (row (one_of class6 e) 6 _ (omega arith) (by_third_low (get_or e 2 0))))))
