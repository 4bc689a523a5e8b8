-- What is said tells the answer, and the promise says what is said and what is left; a refusal leaves the book as it was.
use Prim.Native.Nat.{ℕ}
use Rattle.std.proofs.Common.{Result}
use mathlib.Core.Bool.{true}
use mathlib.Core.List.{List}
use mathlib.Core.Path.{◌≡◌, refl, sym, ap, ◌∙◌}
use Rattle.laws.specs.Order.{Said, granted, refused, refused_at, next, is_refusal}
use Rattle.laws.proofs.Order.{refusal_leaves}
use Rattle.laws.proofs.Tests.{impossible}
use Rattle.book_rules.specs.Form.{form}
use Rattle.book_rules.specs.Edits.{add_says, added, remove_says, removed}
use Rattle.book_rules.specs.Load.{load_says}
use Rattle.refusals.specs.Refusals.{said}
use Rattle.refusals.specs.declared.Refusal.{Refusal}
use Rattle.refusals.proofs.NoChoice.{said_one}
use Rattle.book_edits.specs.Promise.{AddPromise, RemovePromise, LoadPromise}

-- ---- no choice

pub add_no_choice : (w : List ℕ) (place client wish : ℕ) (r q : Result (Unit {0}) Refusal) (left kept : List ℕ)
    → AddPromise w place client wish r left → AddPromise w place client wish q kept → (r ≡ q) × (left ≡ kept)
add_no_choice w place client wish r q left kept a b = (said_one r q (a.says ∙ sym b.says), a.lent ∙ sym b.lent)

pub remove_no_choice : (w : List ℕ) (place client : ℕ) (r q : Result (Unit {0}) Refusal) (left kept : List ℕ)
    → RemovePromise w place client r left → RemovePromise w place client q kept → (r ≡ q) × (left ≡ kept)
remove_no_choice w place client r q left kept a b = (said_one r q (a.says ∙ sym b.says), a.lent ∙ sym b.lent)

-- of load_each, and of the load by keys
pub load_no_choice : (w list : List ℕ) (r q : Result (Unit {0}) Refusal) (left kept : List ℕ) → LoadPromise w list r left → LoadPromise w list q kept → (r ≡ q) × (left ≡ kept)
load_no_choice w list r q left kept a b = (said_one r q (a.says ∙ sym b.says), a.lent ∙ sym b.lent)

-- ---- a refusal writes nothing

pub add_refusal_writes_nothing : (w : List ℕ) (place client wish : ℕ) (r : Result (Unit {0}) Refusal) (left : List ℕ)
    → AddPromise w place client wish r left → is_refusal (said r) ≡ true → left ≡ w
add_refusal_writes_nothing w place client wish r left a h =
    a.lent ∙ refusal_leaves (λ u. added form place client wish) (add_says form w place client wish) w (ap is_refusal (sym a.says) ∙ h)

pub remove_refusal_writes_nothing : (w : List ℕ) (place client : ℕ) (r : Result (Unit {0}) Refusal) (left : List ℕ)
    → RemovePromise w place client r left → is_refusal (said r) ≡ true → left ≡ w
remove_refusal_writes_nothing w place client r left a h =
    a.lent ∙ refusal_leaves (λ u. removed form place client) (remove_says form w place client) w (ap is_refusal (sym a.says) ∙ h)

-- what is refused next was refused before, where nothing after it refuses
stays : {A : Type 0} (s : Said A) → is_refusal (next {B = Unit {0}} s (λ a. granted tt)) ≡ true → is_refusal s ≡ true
stays (granted a) h = impossible h
stays (refused n) h = refl
stays (refused_at n i) h = refl

pub load_refusal_writes_nothing : (w list : List ℕ) (r : Result (Unit {0}) Refusal) (left : List ℕ) → LoadPromise w list r left → is_refusal (said r) ≡ true → left ≡ w
load_refusal_writes_nothing w list r left a h =
    a.lent ∙ refusal_leaves (λ b d. b) (load_says form w list) w (stays (load_says form w list) (ap is_refusal (sym a.says) ∙ h))
