-- Paper 01, "The book": a load equals adding each item in order to an empty book. The additions of a load, and how a run of
-- edits goes: each is granted in its turn, or there is a first one that is refused.
use Rattle.std.specs.Prelude.{ℕ, ◌≡◌, List, [], ◌∷◌, map}
use Rattle.laws.specs.Order.{granted, refused}
use Rattle.book_rules.specs.Form.{Form}
use Rattle.book_rules.specs.Subscription.{Sub}
use Rattle.book_rules.specs.History.{Edit, adds, answer, edited}

-- the addition of an item
abbrev pub addition : Sub → Edit
addition x = adds x.place x.client x.wish

abbrev pub additions : List Sub → List Edit
additions list = map addition list

-- each edit of a run is granted in its turn
pub data AllGranted (f : Form) : List ℕ → List Edit → Type 0 where
  none : {w : List ℕ} → AllGranted f w []
  more : {w : List ℕ} {e : Edit} {run : List Edit} → answer f w e ≡ granted tt → AllGranted f (edited f w e) run → AllGranted f w (e ∷ run)

-- the first edit of a run that is not granted in its turn gets this number
pub data FirstRefused (f : Form) (n : ℕ) : List ℕ → List Edit → Type 0 where
  here : {w : List ℕ} {e : Edit} {run : List Edit} → answer f w e ≡ refused n → FirstRefused f n w (e ∷ run)
  later : {w : List ℕ} {e : Edit} {run : List Edit} → answer f w e ≡ granted tt → FirstRefused f n (edited f w e) run → FirstRefused f n w (e ∷ run)
