-- Paper 01, "The report program": a text as lines. Every line ends with byte 10.
use Rattle.std.specs.Prelude.{ℕ, List, [], ◌∷◌, Bool, ◌&&◌, length, take, drop, leb, eqb}
use Rattle.laws.specs.Order.{choose}
use Rattle.laws.specs.Lists.{same}
use Rattle.codec.specs.Kind.{Kind}

-- x in front of the first piece
abbrev pub on_first : ℕ → List (List ℕ) → List (List ℕ)
on_first x [] = (x ∷ []) ∷ []
on_first x (l ∷ ls) = (x ∷ l) ∷ ls

-- the pieces of a text between its bytes 10: each but the last is a line, and the last is what stands after the last byte 10
unfoldable pub pieces : List ℕ → List (List ℕ)
pieces [] = [] ∷ []
pieces (x ∷ xs) = choose (eqb x 10) ([] ∷ pieces xs) (on_first x (pieces xs))

-- a form: which lines have it, and what one says
pub record LineForm (A : Type 0) : Type 0 where
  pub allowed : List ℕ → Bool
  pub value : List ℕ → A

-- a line that is of kind k, from its first byte to its last
abbrev pub whole : {A : Type 0} → Kind A → LineForm A
whole k = record { allowed = λ l. eqb (length l) k.width && k.allowed l; value = k.value }

-- a line that is the word w and anything after it
abbrev pub after_word : List ℕ → LineForm (List ℕ)
after_word w = record { allowed = λ l. same (take (length w) l) w; value = λ l. drop (length w) l }

-- a line of the form f, with at most 300 bytes before its byte 10
unfoldable pub is_line : {A : Type 0} → LineForm A → List ℕ → Bool
is_line f l = leb (length l) 300 && f.allowed l
