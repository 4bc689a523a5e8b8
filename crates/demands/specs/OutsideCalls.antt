-- A run of calls from outside on one book, each with the answer and the words that it left.
use Rattle.std.specs.Prelude.{ℕ, List, [], ◌∷◌}
use Rattle.book_rules.specs.History.{adds, removes}
use Rattle.same.specs.Promise.{SameAddPromise, SameRemovePromise, SameLoadPromise}
use Rattle.demands.specs.Changes.{Change, edits, loads}

-- words that held w hold z after these additions, removals and loads, whatever each answered
pub data CalledOutside : List ℕ → List Change → List ℕ → Type 0 where
  none : {w : List ℕ} → CalledOutside w [] w
  add : {w u z : List ℕ} {run : List Change} {place client wish r : ℕ}
      → SameAddPromise w place client wish r u → CalledOutside u run z → CalledOutside w (edits (adds place client wish) ∷ run) z
  remove : {w u z : List ℕ} {run : List Change} {place client r : ℕ}
      → SameRemovePromise w place client r u → CalledOutside u run z → CalledOutside w (edits (removes place client) ∷ run) z
  load : {w u z : List ℕ} {run : List Change} {items : List ℕ} {r : ℕ}
      → SameLoadPromise w items r u → CalledOutside u run z → CalledOutside w (loads items ∷ run) z

-- a run that can be called
pub record Callable (w : List ℕ) (run : List Change) : Type 0 where
  pub left : List ℕ
  pub called : CalledOutside w run left
