-- The promises leave no choice: two answers with two final contents that both meet one are equal. And a refusal writes nothing.
use Prim.Native.Nat.{ℕ}
use mathlib.Core.Path.{◌≡◌, refl, sym, ap, ◌∙◌}
use mathlib.Core.List.{List}
use mathlib.Core.Bool.{Bool, true, false}
use lib.ListN.{length}
use Rattle.std.specs.Prelude.{Option}
use Rattle.laws.specs.Order.{is_refusal}
use Rattle.laws.specs.Space.{pasted}
use Rattle.laws.proofs.Tests.{impossible}
use Rattle.laws.proofs.Order.{refusal_leaves}
use Rattle.codec.specs.Promise.{BetweenPromise, SamePromise, DigitsAtPromise, put_says, said_put, PutPromise}

pub between_no_choice : {lo hi b : ℕ} {r r' : Bool} → BetweenPromise lo hi b r → BetweenPromise lo hi b r' → r ≡ r'
between_no_choice p q = p.says ∙ sym q.says

pub same_no_choice : {a b : List ℕ} {r r' : Bool} → SamePromise a b r → SamePromise a b r' → r ≡ r'
same_no_choice p q = p.says ∙ sym q.says

pub digits_at_no_choice : {t : List ℕ} {at width : ℕ} {r r' : Option ℕ} → DigitsAtPromise t at width r → DigitsAtPromise t at width r' → r ≡ r'
digits_at_no_choice p q = p.says ∙ sym q.says

-- of put_byte, put_bytes, put_count and put_digits
said_one : (r q : Bool) → said_put r ≡ said_put q → r ≡ q
said_one true true e = refl
said_one true false e = impossible (ap is_refusal e)
said_one false true e = impossible (ap is_refusal (sym e))
said_one false false e = refl

pub put_no_choice : {d s : List ℕ} {at : ℕ} {r q : Bool} {d1 d2 : List ℕ} → PutPromise d at s r d1 → PutPromise d at s q d2 → (r ≡ q) × (d1 ≡ d2)
put_no_choice {r = r} {q = q} a b = (said_one r q (a.says ∙ sym b.says), a.space ∙ sym b.space)

pub put_refusal_writes_nothing : {d s : List ℕ} {at : ℕ} {r : Bool} {d' : List ℕ} → PutPromise d at s r d' → is_refusal (said_put r) ≡ true → d' ≡ d
put_refusal_writes_nothing {d} {s} {at} a h =
    a.space ∙ refusal_leaves (λ u out. pasted out at s) (put_says s at (length d)) d (ap is_refusal (sym a.says) ∙ h)
