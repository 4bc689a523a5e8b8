-- Only what is granted goes on to the next step, so steps can be grouped either way.
use mathlib.Core.Path.{◌≡◌, refl}
use Rattle.laws.specs.Order.{Said, granted, refused, refused_at, next}
use Rattle.laws.proofs.Clash.{clash}

pub next_next : {A B C : Type 0} (o : Said A) (f : A → Said B) (g : B → Said C) → next (next o f) g ≡ next o (λ a. next (f a) g)
next_next (granted a) f g = refl
next_next (refused n) f g = refl
next_next (refused_at n i) f g = refl

pub next_granted : {A : Type 0} (o : Said A) → next o (λ a. granted a) ≡ o
next_granted (granted a) = refl
next_granted (refused n) = refl
next_granted (refused_at n i) = refl

-- only what is said of a granted value matters
pub next_said_by : {A B : Type 0} (o : Said A) (f g : A → Said B) → ((a : A) → o ≡ granted a → f a ≡ g a) → next o f ≡ next o g
next_said_by (granted a) f g h = h a refl
next_said_by (refused n) f g h = refl
next_said_by (refused_at n i) f g h = refl

-- a granted whole has a granted first
pub record First {A B : Type 0} (o : Said A) (f : A → Said B) (b : B) : Type 0 where
  pub value : A
  pub given : o ≡ granted value
  pub rest : f value ≡ granted b

pub next_first : {A B : Type 0} (o : Said A) (f : A → Said B) (b : B) → next o f ≡ granted b → First o f b
next_first (granted a) f b e = record { value = a; given = refl; rest = e }
next_first (refused n) f b e = clash cc
next_first (refused_at n i) f b e = clash cc
