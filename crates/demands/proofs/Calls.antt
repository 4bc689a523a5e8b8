-- What a run of calls leaves is what the history's definition says, call by call; and an answer of no index can be given, so any run can be called.
use mathlib.Core.Path.{◌≡◌, refl, ap, ◌∙◌}
use mathlib.Core.List.{List, [], ◌∷◌}
use mathlib.Core.Bool.{Bool, true}
use Prim.Native.Nat.{ℕ}
use Rattle.laws.specs.Order.{Said, granted, refused, refused_at, passes}
use Rattle.laws.proofs.Order.{no_number, passes_rows}
use Rattle.laws.proofs.Tests.{impossible}
use Rattle.book_rules.specs.Form.{form}
use Rattle.book_rules.specs.Edits.{add_rows, add_says, remove_rows, remove_says}
use Rattle.book_rules.specs.History.{Edit, adds, removes, edited, after}
use Rattle.book_edits.specs.Promise.{AddPromise, RemovePromise}
use Rattle.std.specs.Prelude.{Result, Ok, Err}
use Rattle.laws.specs.Numbers.{within}
use Rattle.refusals.specs.Refusals.{said}
use Rattle.refusals.specs.declared.Refusal.{Refusal}
use Rattle.refusals.proofs.Named.{with_number, number_says}
use Rattle.demands.specs.Calls.{Called, none, add, remove}

pub add_edits : {w u : List ℕ} {place client wish : ℕ} {r : Result (Unit {0}) Refusal} → AddPromise w place client wish r u → u ≡ edited form w (adds place client wish)
unfolding edited
add_edits p = p.lent

pub remove_edits : {w u : List ℕ} {place client : ℕ} {r : Result (Unit {0}) Refusal} → RemovePromise w place client r u → u ≡ edited form w (removes place client)
unfolding edited
remove_edits p = p.lent

pub calls : (w : List ℕ) (run : List Edit) (z : List ℕ) → Called w run z → z ≡ after form w run
unfolding after
calls w [] z none = refl
calls w (adds place client wish ∷ run) z (add {u = u} p c) = calls u run z c ∙ ap (λ (b : List ℕ). after form b run) (add_edits p)
calls w (removes place client ∷ run) z (remove {u = u} p c) = calls u run z c ∙ ap (λ (b : List ℕ). after form b run) (remove_edits p)

-- ---- every run: an answer that says what an edit says

abbrev answer_for : Said (Unit {0}) → Result (Unit {0}) Refusal
answer_for (granted u) = Ok u
answer_for (refused n) = Err (with_number n)
answer_for (refused_at n i) = Err (with_number n)

-- the numbers of an edit are among these
abbrev of_edits : ℕ → Bool
of_edits n = within 13 23 n

-- where no index is named, the answer says it
told : (s : Said (Unit {0})) → passes of_edits no_number s ≡ true → said (answer_for s) ≡ s
told (granted u) h = refl
told (refused n) h = number_says n h
told (refused_at n i) h = impossible h

add_told : (w : List ℕ) (place client wish : ℕ) → said (answer_for (add_says form w place client wish)) ≡ add_says form w place client wish
unfolding add_says
add_told w place client wish =
    told (add_says form w place client wish) (passes_rows of_edits no_number (add_rows form w place client wish) (granted tt) refl refl)

remove_told : (w : List ℕ) (place client : ℕ) → said (answer_for (remove_says form w place client)) ≡ remove_says form w place client
unfolding remove_says
remove_told w place client =
    told (remove_says form w place client) (passes_rows of_edits no_number (remove_rows form w place client) (granted tt) refl refl)

pub any_run : (w : List ℕ) (run : List Edit) → Called w run (after form w run)
unfolding after edited
any_run w [] = none
any_run w (adds place client wish ∷ run) =
    add {r = answer_for (add_says form w place client wish)}
    (record { says = add_told w place client wish; lent = refl }) (any_run (edited form w (adds place client wish)) run)
any_run w (removes place client ∷ run) =
    remove {r = answer_for (remove_says form w place client)}
    (record { says = remove_told w place client; lent = refl }) (any_run (edited form w (removes place client)) run)
