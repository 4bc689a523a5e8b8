-- The promises leave no choice: two answers that both meet one are equal.
use mathlib.Core.Path.{◌≡◌, sym, ◌∙◌}
use mathlib.Core.Bool.{Bool}
use Prim.Native.Nat.{ℕ}
use Rattle.event.specs.Promise.{ListedPromise, ClassPromise, ListedClassPromise}
use Rattle.event.specs.declared.ListedClass.{ListedClass}

pub is_listed_no_choice : (a b c : ℕ) (r s : Bool) → ListedPromise a b c r → ListedPromise a b c s → r ≡ s
is_listed_no_choice a b c r s p q = p.says ∙ sym q.says

pub class_of_no_choice : (a b c r s : ℕ) → ClassPromise a b c r → ClassPromise a b c s → r ≡ s
class_of_no_choice a b c r s p q = p.says ∙ sym q.says

pub listed_class_no_choice : (a b c : ℕ) (r s : ListedClass) → ListedClassPromise a b c r → ListedClassPromise a b c s → r ≡ s
listed_class_no_choice a b c r s p q =
    let l : r.listed ≡ s.listed = p.listed ∙ sym q.listed in
    let k : r.class ≡ s.class = p.class ∙ sym q.class in
    λ i. record { listed = l i; class = k i }
