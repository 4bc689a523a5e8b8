-- The texts of a page's lines, as they are put: bytes, whatever the word. What a page says is `page_printing`'s to define, in the paper's words.
-- Paper 01, "The report program".
use Rattle.std.specs.Prelude.{ℕ, List, [], ◌∷◌, ◌++◌}
use Rattle.laws.specs.Numbers.{dig}
use Rattle.laws.specs.Text.{ascii}
use Rattle.clock.specs.declared.Stamp.{Stamp}

-- a line: a word, what it says, and byte 10
abbrev pub text_line : List ℕ → List ℕ → List ℕ
text_line word says = word ++ (says ++ (10 ∷ []))

-- of a word and a number of w digits
abbrev pub number_line : List ℕ → ℕ → ℕ → List ℕ
number_line word w n = text_line word (dig w n)

-- `MM-DD HH:MM`, and the line of a word and that
abbrev pub when_text : Stamp → List ℕ
when_text s = dig 2 s.month ++ (ascii "-" ++ (dig 2 s.day ++ (ascii " " ++ (dig 2 s.hour ++ (ascii ":" ++ dig 2 s.minute)))))

abbrev pub stamp_line : List ℕ → Stamp → List ℕ
stamp_line word s = text_line word (when_text s)

-- a hit's line, and those of all hits
abbrev pub hit_line : ℕ → ℕ → List ℕ
hit_line place wish = text_line (ascii "hit=") (dig 6 place ++ (ascii " " ++ dig 2 wish))

unfoldable pub hits_text : List ℕ → List ℕ
hits_text [] = []
hits_text (place ∷ []) = []
hits_text (place ∷ (wish ∷ hits)) = hit_line place wish ++ hits_text hits
