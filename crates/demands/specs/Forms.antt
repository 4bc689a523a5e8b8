-- The forms of statement that demand 1 makes of every call.
use Rattle.std.specs.Prelude.{◌≡◌, ◌⊎◌, Bool, true, List, ℕ}
use Rattle.laws.specs.Order.{Said, Row, First, Quiet, is_refusal, passes}
use Rattle.laws.specs.Numbers.{within}

-- any two answers that meet a promise are equal
abbrev pub LeavesNoChoice : {A : Type 0} → (A → Type 0) → Type 0
LeavesNoChoice {A} Promise = (r q : A) → Promise r → Promise q → r ≡ q

-- the same where space is lent, of any kind: the two final contents are equal too
abbrev pub LeavesNoChoiceOf : {A E : Type 0} → (A → List E → Type 0) → Type 0
LeavesNoChoiceOf {A} {E} Promise = (r q : A) (left rest : List E) → Promise r left → Promise q rest → (r ≡ q) × (left ≡ rest)

-- where an answer that meets a promise says a refusal, the lent space holds what it held
abbrev pub RefusalWritesNothing : {A B E : Type 0} → (A → Said B) → List E → (A → List E → Type 0) → Type 0
RefusalWritesNothing {A} {B} {E} said lent Promise = (r : A) (left : List E) → Promise r left → is_refusal (said r) ≡ true → left ≡ lent

-- what is said goes by rows tried from the top: it is said by the first that holds, or none holds and the last word is said; and
-- what the first that holds says is said
pub record GoesBy {A : Type 0} (rows : List (Row A)) (last said : A) : Type 0 where
  pub one_of : First said rows ⊎ (Quiet rows × (said ≡ last))
  pub first : (x : A) → First x rows → said ≡ x
  pub none : Quiet rows → said ≡ last

-- a number of the paper's list
abbrev pub is_number : ℕ → Bool
is_number n = within 1 23 n

-- what is said is granted, or refused by a number of the list
abbrev pub numbered : {A : Type 0} → Said A → Bool
numbered s = passes is_number is_number s
