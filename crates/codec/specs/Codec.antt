-- A part of a text: how it is read from the left, the rows of what is not allowed in a value, and how a value is written.
-- Paper 01, "The header text": fields are tried from the left; a field fails if too few bytes remain for it and its mark, or
-- a byte or value is not allowed; the refusal carries the index of the field's first byte.
use Rattle.std.specs.Prelude.{ℕ, zero, suc, ◌+◌, List, [], ◌∷◌, ◌++◌, Bool, ◌&&◌, ◌||◌, not, length, get_or, take, drop, ltb, eqb}
use Rattle.laws.specs.Order.{Said, refused, Row, ◌when◌, choose}
use Rattle.laws.specs.Lists.{every}
use Rattle.laws.specs.Numbers.{within}
use Rattle.codec.specs.Kind.{Kind}

infixr 30 ◌▷◌
-- what reading gives: a value, the bytes after it and their index; or the number and the index at which reading stops
pub data Out (A : Type 0) : Type 0 where
  got : A → List ℕ → ℕ → Out A
  no : ℕ → ℕ → Out A

abbrev pub and_then : {A B : Type 0} → Out A → (A → List ℕ → ℕ → Out B) → Out B
and_then (got a s i) f = f a s i
and_then (no n i) f = no n i

-- the byte m; the byte a or the byte e
abbrev pub is : ℕ → ℕ → Bool
is m x = eqb x m

abbrev pub either : ℕ → ℕ → ℕ → Bool
either a e x = eqb x a || eqb x e

-- a field of kind k and its mark stand at the front of s
unfoldable pub fits : {A : Type 0} → Kind A → (ℕ → Bool) → List ℕ → Bool
fits k mark s = ltb k.width (length s) && (k.allowed (take k.width s) && mark (get_or s k.width 0))

-- reading them; s stands at index i, and n is the number if they do not stand there
abbrev pub step : {A : Type 0} → ℕ → Kind A → (ℕ → Bool) → List ℕ → ℕ → Out A
step n k mark s i =
    choose (fits k mark s)
    (got (k.value (take k.width s)) (drop (k.width + 1) s) (i + (k.width + 1)))
    (no n i)

-- how a part is read, the rows of what is not allowed in a value (in the order of reading), and its text
pub record Codec (A : Type 0) : Type 0 where
  pub get : List ℕ → ℕ → Out A
  pub faults : A → List (Row (Said ℕ))
  pub text : A → List ℕ

-- number n where the test fails
abbrev pub unless : ℕ → Bool → List (Row (Said ℕ))
unless n b = refused n when not b ∷ []

-- a field of kind k, then the byte m; n is the number if not
abbrev pub field : {A : Type 0} → ℕ → Kind A → ℕ → Codec A
field n k m = record { get = step n k (is m); faults = λ v. unless n (k.ok v); text = λ v. k.put v ++ (m ∷ []) }

-- one after the other
abbrev pub ◌▷◌ : {A B : Type 0} → Codec A → Codec B → Codec (A × B)
c ▷ d = record {
  get = λ s i. and_then (c.get s i) (λ a r j. and_then (d.get r j) (λ b q l. got (a, b) q l));
  faults = λ v. c.faults v.0 ++ d.faults v.1;
  text = λ v. c.text v.0 ++ d.text v.1;
}

-- 1 to m fields of kind k, each followed by the byte a, the last by the byte e; where m are read and none was the last, the
-- next fails at its own start, whatever stands there
abbrev pub get_list : {A : Type 0} → ℕ → Kind A → ℕ → ℕ → ℕ → List ℕ → ℕ → Out (List A)
get_list n k a e zero s i = no n i
get_list n k a e (suc m) s i =
    and_then (step n k (either a e) s i)
    (λ p r j.
    choose (eqb (get_or s k.width 0) e)
    (got (p ∷ []) r j)
    (and_then (get_list n k a e m r j) (λ ps q l. got (p ∷ ps) q l)))

abbrev pub text_list : {A : Type 0} → Kind A → ℕ → ℕ → List A → List ℕ
text_list k a e [] = []
text_list k a e (p ∷ []) = k.put p ++ (e ∷ [])
text_list k a e (p ∷ (q ∷ ps)) = k.put p ++ (a ∷ text_list k a e (q ∷ ps))

abbrev pub list_of : {A : Type 0} → ℕ → ℕ → Kind A → ℕ → ℕ → Codec (List A)
list_of m n k a e = record {
  get = get_list n k a e m;
  faults = λ ps. unless n (within 1 m (length ps) && every k.ok ps);
  text = text_list k a e;
}
