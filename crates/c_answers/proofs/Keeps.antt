-- A refusal leaves lent space as it was, and a caller outside sees it by the number in the low half.
use Prim.Native.Nat.{ℕ, ◌<◌}
use mathlib.Core.Path.{◌≡◌, sym, ◌∙◌}
use Rattle.laws.specs.Space.{leaves}
use Rattle.laws.specs.Order.{Said, granted, next, is_refusal}
use Rattle.laws.proofs.Order.{refusal_leaves}
use Rattle.c_answers.specs.Answer.{in_halves, number_in}
use Rattle.c_answers.proofs.Packs.{low_refused, refused_before}

pub keeps : {A B : Type 0} (effect : A → B → B) (said : Said A) (t : Said ℕ) (d left : B) (r : ℕ)
    → is_refusal t ≡ is_refusal said → r ≡ in_halves t → left ≡ leaves effect said d → 0 < number_in r → left ≡ d
keeps effect said t d left r same says space low = space ∙ refusal_leaves effect said d (sym same ∙ low_refused t (rw (← says) low))

-- where the answer names something of what was granted
pub keeps_of : {A B : Type 0} (f : A → ℕ) (effect : A → B → B) (said : Said A) (d left : B) (r : ℕ)
    → r ≡ in_halves (next said (λ a. granted (f a))) → left ≡ leaves effect said d → 0 < number_in r → left ≡ d
keeps_of f effect said d left r = keeps effect said (next said (λ a. granted (f a))) d left r (refused_before said f)
