-- Two results that say the same are one; and the promises on a refusal leave no choice.
use Rattle.std.specs.Prelude.{ℕ, ◌≡◌, Option, Result, Ok, Err}
use mathlib.Core.Path.{sym, ap, ◌∙◌}
use Rattle.refusals.proofs.Apart.{says_one}
use Rattle.refusals.proofs.Said.{never_granted}
use Rattle.refusals.specs.Refusals.{said}
use Rattle.refusals.specs.Promise.{NumberPromise, IndexPromise}
use Rattle.refusals.specs.declared.Refusal.{Refusal}

pub said_one : {A : Type 0} (r s : Result A Refusal) → said r ≡ said s → r ≡ s
said_one (Ok a) (Ok b) e = cc
said_one (Ok a) (Err y) e = never_granted y (sym e)
said_one (Err x) (Ok b) e = never_granted x e
said_one {A} (Err x) (Err y) e = ap Err (says_one {A = A} x y e)

pub number_no_choice : {e : Refusal} {r s : ℕ} → NumberPromise e r → NumberPromise e s → r ≡ s
number_no_choice p q = p.says ∙ sym q.says

pub index_no_choice : {e : Refusal} {r s : Option ℕ} → IndexPromise e r → IndexPromise e s → r ≡ s
index_no_choice p q = p.says ∙ sym q.says
