-- Two tests are equal where each follows from the other, and where one of two holds it is this or that.
use mathlib.Core.Path.{◌≡◌, refl, sym}
use mathlib.Core.Logic.{◌⊎◌, inl, inr}
use mathlib.Core.Bool.{Bool, true, false, ◌||◌}

pub bool_eq : (a b : Bool) → (a ≡ true → b ≡ true) → (b ≡ true → a ≡ true) → a ≡ b
bool_eq true b f g = sym (f refl)
bool_eq false true f g = g refl
bool_eq false false f g = refl

pub or_cases : (a b : Bool) → a || b ≡ true → (a ≡ true) ⊎ (b ≡ true)
or_cases true b e = inl refl
or_cases false b e = inr e

pub or_inl : (a b : Bool) → a ≡ true → a || b ≡ true
or_inl a b e = rw e

pub or_inr : (a b : Bool) → b ≡ true → a || b ≡ true
or_inr true b e = refl
or_inr false b e = e
