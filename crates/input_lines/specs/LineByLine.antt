-- Paper 01, "The report program": line by line from the top. Any other form, or a missing line, is 23.
use Rattle.std.specs.Prelude.{ℕ, List, [], ◌∷◌, length, eqb}
use Rattle.laws.specs.Order.{Said, granted, refused, choose, next}
use Rattle.input_lines.specs.Lines.{LineForm, is_line}

-- one line of the form f, and then what the rest says
unfoldable pub one_line : {A B : Type 0} → LineForm A → List (List ℕ) → (A → List (List ℕ) → Said B) → Said B
one_line f [] rest = refused 23
one_line f (l ∷ []) rest = refused 23
one_line f (l ∷ (m ∷ ls)) rest = choose (is_line f l) (rest (f.value l) (m ∷ ls)) (refused 23)

-- any number of lines of the form f, each done as it is met; nothing stands after the last byte 10
unfoldable pub each_line : {A S : Type 0} → LineForm A → (S → A → Said S) → S → List (List ℕ) → Said S
each_line f does s [] = granted s
each_line f does s (l ∷ []) = choose (eqb (length l) 0) (granted s) (refused 23)
each_line f does s (l ∷ (m ∷ ls)) =
    choose (is_line f l)
    (next (does s (f.value l)) (λ s'. each_line f does s' (m ∷ ls)))
    (refused 23)

-- some values, each done in its turn, up to the first refusal
unfoldable pub each_done : {A S : Type 0} → (S → A → Said S) → S → List A → Said S
each_done does s [] = granted s
each_done does s (v ∷ vs) = next (does s v) (λ s'. each_done does s' vs)
