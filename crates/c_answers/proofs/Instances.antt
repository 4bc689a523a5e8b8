-- What one result says in halves: of a length and a refusal, and of nothing and a refusal, as the calls of the project answer.
use Prim.Native.Nat.{ℕ}
use mathlib.Core.Path.{◌≡◌, refl, sym, ap, ◌∙◌}
use Rattle.std.specs.Prelude.{Result, Ok, Err}
use Rattle.laws.specs.Order.{Said, granted}
use Rattle.refusals.specs.Refusals.{says, said}
use Rattle.refusals.specs.declared.Refusal.{Refusal}
use Rattle.refusals.proofs.Said.{next_refused}
use Rattle.c_answers.specs.Answer.{in_halves, bare}
use Rattle.c_answers.specs.Promise.{said_by, ToldPromise, VotedPromise, EditedPromise, PrintedPromise, WrotePromise}

abbrev pub sized : ℕ → Said ℕ
sized n = granted n

abbrev pub nothing : Unit {0} → Said ℕ
nothing u = granted 0

abbrev pub why : Refusal → Said ℕ
why e = says e

pub sized_is : (r : Result ℕ Refusal) → said_by sized why r ≡ said r
sized_is (Ok n) = refl
sized_is (Err e) = refl

pub nothing_is : (r : Result (Unit {0}) Refusal) → said_by nothing why r ≡ bare (said r)
nothing_is (Ok u) = refl
nothing_is (Err e) = sym (next_refused e (λ u. granted 0))

module _ {r : Result ℕ Refusal} {q : ℕ} (p : ToldPromise sized why r q) where
  pub told_size : q ≡ in_halves (said r)
  told_size = p.says ∙ ap in_halves (sized_is r)

  pub told_voted : VotedPromise r q
  told_voted = record { says = told_size }

  pub told_printed : PrintedPromise r q
  told_printed = record { says = told_size }

  pub told_wrote : WrotePromise r q
  told_wrote = record { says = told_size }

pub told_edited : {r : Result (Unit {0}) Refusal} {q : ℕ} → ToldPromise nothing why r q → EditedPromise r q
told_edited {r} p = record { says = p.says ∙ ap in_halves (nothing_is r) }
