-- A kind of field: so many bytes, which of them are allowed, what they mean, and how a value is written. Reading and
-- writing go by one description.
use Rattle.std.specs.Prelude.{ℕ, ◌+◌, ◌^◌, List, [], ◌++◌, Bool, true, ◌&&◌, length, take, drop, ltb, eqb}
use Rattle.laws.specs.Lists.{every, same}
use Rattle.laws.specs.Numbers.{digit, decimal, dig}

infixr 40 ◌⊗◌
-- `width` bytes; `allowed` is asked of that many bytes, and `value` is what they mean; `ok` is asked of a value, and `put`
-- is its bytes
pub record Kind (A : Type 0) : Type 0 where
  pub width : ℕ
  pub allowed : List ℕ → Bool
  pub value : List ℕ → A
  pub ok : A → Bool
  pub put : A → List ℕ

-- no bytes, which say nothing
abbrev pub nothing : Kind (Unit {0})
nothing = record { width = 0; allowed = λ b. true; value = λ b. tt; ok = λ u. true; put = λ u. [] }

-- any w bytes, as they are
abbrev pub bytes : ℕ → Kind (List ℕ)
bytes w = record { width = w; allowed = λ b. true; value = λ b. b; ok = λ b. eqb (length b) w; put = λ b. b }

-- a number of w decimal digits
abbrev pub digits : ℕ → Kind ℕ
digits w = record { width = w; allowed = every digit; value = decimal; ok = λ n. ltb n (10 ^ w); put = dig w }

-- one after the other
abbrev pub ◌⊗◌ : {A B : Type 0} → Kind A → Kind B → Kind (A × B)
j ⊗ k = record {
  width = j.width + k.width;
  allowed = λ b. j.allowed (take j.width b) && k.allowed (drop j.width b);
  value = λ b. (j.value (take j.width b), k.value (drop j.width b));
  ok = λ v. j.ok v.0 && k.ok v.1;
  put = λ v. j.put v.0 ++ k.put v.1;
}

-- the word w, which says nothing, and after it a field of kind k
abbrev pub tag : {A : Type 0} → List ℕ → Kind A → Kind A
tag w k = record {
  width = length w + k.width;
  allowed = λ b. same (take (length w) b) w && k.allowed (drop (length w) b);
  value = λ b. k.value (drop (length w) b);
  ok = k.ok;
  put = λ v. w ++ k.put v;
}

-- those that pass the test p, kept as `to` says and written as `from` says
abbrev pub kept : {A B : Type 0} → (A → Bool) → (A → B) → (B → A) → Kind A → Kind B
kept p to from k = record {
  width = k.width;
  allowed = λ b. k.allowed b && p (k.value b);
  value = λ b. to (k.value b);
  ok = λ v. k.ok (from v) && p (from v);
  put = λ v. k.put (from v);
}

-- those that pass the test p, as they are
abbrev pub only : {A : Type 0} → (A → Bool) → Kind A → Kind A
only p k = kept p (λ a. a) (λ a. a) k
