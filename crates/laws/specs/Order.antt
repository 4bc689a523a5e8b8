-- What a call says, and the order of its numbers: rows of what is said and when, tried from the top.
-- Paper 01, "Numbers and what they leave": a number is given exactly when its condition holds and no condition
-- earlier in that call's order does; a call for which none holds is granted.
use Rattle.std.specs.Prelude.{Bool, true, false, List, [], ◌∷◌, ◌≡◌, ℕ}

infix 70 ◌when◌
-- a value that is granted, a number, or a number with an index
pub data Said (A : Type 0) : Type 0 where
  granted : A → Said A
  refused : ℕ → Said A
  refused_at : ℕ → ℕ → Said A

-- the first of two where the test holds, else the second
abbrev pub choose : {A : Type 0} → Bool → A → A → A
choose true a b = a
choose false a b = b

-- a row: what is said, and the condition
pub record Row (A : Type 0) : Type 0 where
  pub says : A
  pub holds : Bool

abbrev pub ◌when◌ : {A : Type 0} → A → Bool → Row A
a when b = record { says = a; holds = b }

-- rows tried from the top, and what is said where none holds
abbrev pub in_order : {A : Type 0} → List (Row A) → A → A
in_order [] last = last
in_order (r ∷ rows) last = choose r.holds r.says (in_order rows last)

-- no row of a list holds
pub data Quiet {A : Type 0} : List (Row A) → Type 0 where
  none : Quiet []
  more : {r : Row A} {rows : List (Row A)} → r.holds ≡ false → Quiet rows → Quiet (r ∷ rows)

-- x is said by the first row that holds
pub data First {A : Type 0} : A → List (Row A) → Type 0 where
  here : {r : Row A} {rows : List (Row A)} → r.holds ≡ true → First r.says (r ∷ rows)
  later : {x : A} {r : Row A} {rows : List (Row A)} → r.holds ≡ false → First x rows → First x (r ∷ rows)

-- a refusal; rows that all say one
abbrev pub is_refusal : {A : Type 0} → Said A → Bool
is_refusal (granted a) = false
is_refusal (refused n) = true
is_refusal (refused_at n i) = true

abbrev pub Refusals : {A : Type 0} → List (Row (Said A)) → Type 0
Refusals [] = Unit
Refusals (r ∷ rows) = (is_refusal r.says ≡ true) × Refusals rows

-- what is said is granted, or its number passes a test: p where it comes without an index, q where with one
abbrev pub passes : {A : Type 0} → (ℕ → Bool) → (ℕ → Bool) → Said A → Bool
passes p q (granted a) = true
passes p q (refused n) = p n
passes p q (refused_at n i) = q n

-- what is said next, where the first is granted
abbrev pub next : {A B : Type 0} → Said A → (A → Said B) → Said B
next (granted a) rest = rest a
next (refused n) rest = refused n
next (refused_at n i) rest = refused_at n i
