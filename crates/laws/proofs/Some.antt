-- The library's test for some entry that passes is the same test.
use mathlib.Core.Path.{◌≡◌, refl, ap}
use mathlib.Core.List.{List, [], ◌∷◌}
use mathlib.Core.Bool.{Bool, ◌||◌}
use Rattle.std.specs.List.{list_any}
use Rattle.laws.specs.Lists.{some}

pub some_is : {A : Type 0} (p : A → Bool) (b : List A) → list_any p b ≡ some p b
some_is p [] = refl
some_is p (x ∷ xs) = ap (λ (t : Bool). p x || t) (some_is p xs)
