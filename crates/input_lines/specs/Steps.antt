-- Steps of the code.
use Rattle.std.specs.Prelude.{ℕ, suc, ◌+◌, ◌≡◌, List, [], ◌∷◌, Bool, true, false, ◌&&◌, length, get_or, take, drop, ltb, leb, eqb, Option, Some, None}
use Rattle.std.specs.Option.{option_map}
use Rattle.laws.specs.Order.{choose}
use Rattle.laws.specs.Lists.{same}
use Rattle.codec.specs.Promise.{number_at}
use Rattle.input_lines.specs.Lines.{LineForm}

-- how many bytes stand before the first byte 10
unfoldable pub to_end : List ℕ → ℕ
to_end [] = 0
to_end (x ∷ xs) = choose (eqb x 10) 0 (suc (to_end xs))

-- where the line from index at on ends
unfoldable pub line_of : List ℕ → ℕ → Option ℕ
line_of text at =
    choose (ltb (to_end (drop at text)) (length (drop at text)) && leb (to_end (drop at text)) 300)
    (Some (at + to_end (drop at text)))
    None

-- w bytes stand from index at on, and after them a byte 10
unfoldable pub ends_after : List ℕ → ℕ → ℕ → Bool
ends_after text at w = ltb (at + w) (length text) && eqb (get_or text (at + w) 0) 10

-- a word at index at of a line, and after it a number of w digits
unfoldable pub tagged_of : List ℕ → ℕ → List ℕ → ℕ → Option ℕ
tagged_of word w line at = choose (same (take (length word) (drop at line)) word) (number_at line (at + length word) w) None

-- what a line says by its form alone
unfoldable pub form_of : {A : Type 0} → LineForm A → List ℕ → Option A
form_of f line = choose (f.allowed line) (Some (f.value line)) None

-- what is read of the n bytes from index at on by `of`, with the index after their byte 10; nothing where no such byte stands there
pub data FixedLine {T : Type 0} (of : List ℕ → Option T → Type 0) (t : List ℕ) (at n : ℕ) (r : Option (T × ℕ)) : Type 0 where
  no_end : ends_after t at n ≡ false → r ≡ None → FixedLine of t at n r
  ends : ends_after t at n ≡ true → (o : Option T) → of (take n (drop at t)) o → r ≡ option_map (λ v. (v, at + n + 1)) o → FixedLine of t at n r
