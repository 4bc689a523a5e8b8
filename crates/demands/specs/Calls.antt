-- A run of calls on one book, each with the answer and the words that it left: what demand 3 speaks of.
use Rattle.std.specs.Prelude.{ℕ, List, [], ◌∷◌, Result}
use Rattle.book_rules.specs.History.{Edit, adds, removes}
use Rattle.book_edits.specs.Promise.{AddPromise, RemovePromise}
use Rattle.refusals.specs.declared.Refusal.{Refusal}

-- a book that held w holds z after these additions and removals, whatever each answered
pub data Called : List ℕ → List Edit → List ℕ → Type 0 where
  none : {w : List ℕ} → Called w [] w
  add : {w u z : List ℕ} {run : List Edit} {place client wish : ℕ} {r : Result (Unit {0}) Refusal}
      → AddPromise w place client wish r u → Called u run z → Called w (adds place client wish ∷ run) z
  remove : {w u z : List ℕ} {run : List Edit} {place client : ℕ} {r : Result (Unit {0}) Refusal}
      → RemovePromise w place client r u → Called u run z → Called w (removes place client ∷ run) z
