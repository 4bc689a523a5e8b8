-- A promise says the answer as one number, so two that meet it are equal.
use Prim.Native.Nat.{ℕ}
use mathlib.Core.Bool.{Bool}
use mathlib.Core.Path.{◌≡◌, sym, ◌∙◌}
use Rattle.std.specs.Prelude.{Result}
use Rattle.laws.specs.Order.{Said}
use Rattle.refusals.specs.declared.Refusal.{Refusal}
use Rattle.c_answers.specs.Promise.{CapPromise, AnswerPromise, HalvesPromise, ToldPromise, VotedPromise, EditedPromise, PrintedPromise, WrotePromise, YesPromise}

pub cap_no_choice : (v r q : ℕ) → CapPromise v r → CapPromise v q → r ≡ q
cap_no_choice v r q a b = a.says ∙ sym b.says

pub answer_no_choice : (number sizeOrIndex r q : ℕ) → AnswerPromise number sizeOrIndex r → AnswerPromise number sizeOrIndex q → r ≡ q
answer_no_choice number sizeOrIndex r q a b = a.says ∙ sym b.says

pub halves_no_choice : {A : Type 0} (said_of : A → Said ℕ) (v : A) (r q : ℕ) → HalvesPromise said_of v r → HalvesPromise said_of v q → r ≡ q
halves_no_choice said_of v r q a b = a.says ∙ sym b.says

pub told_no_choice : {T E : Type 0} (value : T → Said ℕ) (error : E → Said ℕ) (s : Result T E) (r q : ℕ)
    → ToldPromise value error s r → ToldPromise value error s q → r ≡ q
told_no_choice value error s r q a b = a.says ∙ sym b.says

pub voted_no_choice : (v : Result ℕ Refusal) (r q : ℕ) → VotedPromise v r → VotedPromise v q → r ≡ q
voted_no_choice v r q a b = a.says ∙ sym b.says

pub edited_no_choice : (e : Result (Unit {0}) Refusal) (r q : ℕ) → EditedPromise e r → EditedPromise e q → r ≡ q
edited_no_choice e r q a b = a.says ∙ sym b.says

pub printed_no_choice : (p : Result ℕ Refusal) (r q : ℕ) → PrintedPromise p r → PrintedPromise p q → r ≡ q
printed_no_choice p r q a b = a.says ∙ sym b.says

pub wrote_no_choice : (w : Result ℕ Refusal) (r q : ℕ) → WrotePromise w r → WrotePromise w q → r ≡ q
wrote_no_choice w r q a b = a.says ∙ sym b.says

pub yes_no_choice : (b : Bool) (r q : ℕ) → YesPromise b r → YesPromise b q → r ≡ q
yes_no_choice b r q u v = u.says ∙ sym v.says
