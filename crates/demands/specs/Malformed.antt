-- Paper 01, "The report program": where 23 is given. Line by line from the top, the form is checked and each `sub=` is added: so it is 23
-- exactly if the first fault from the top is a line's form, or a line that is missing.
use Rattle.std.specs.Prelude.{ℕ, ◌<◌, ◌≡◌, ◌⊎◌, true, false, List, [], ◌∷◌, ◌++◌, map, length}
use Rattle.laws.specs.Order.{granted}
use Rattle.laws.specs.Lists.{every}
use Rattle.input_lines.specs.Lines.{LineForm, is_line}
use Rattle.input_lines.specs.Forms.{now_line, client_line, header_line, sub_line}
use Rattle.input_lines.specs.LineByLine.{each_done}
use Rattle.book_rules.specs.Rules.{empty}
use Rattle.page.specs.Input.{adds_line}

-- a line is not of its form, or has over 300 bytes before its byte 10
abbrev pub Bad : {A : Type 0} → LineForm A → List ℕ → Type 0
Bad f line = (f.allowed line ≡ false) ⊎ (300 < length line)

-- ---- of the pieces of an input between its bytes 10: each but the last is a line, as every line ends with byte 10

-- the line of this form that must stand next is another, or is missing
pub data NoLine {A : Type 0} (f : LineForm A) : List (List ℕ) → Type 0 where
  no_form : {line next : List ℕ} {rest : List (List ℕ)} → Bad f line → NoLine f (line ∷ (next ∷ rest))
  missing : {last : List ℕ} → NoLine f (last ∷ [])

-- what stands next is neither the end nor a `sub=` line: it has another form, or no byte 10
pub data NoSub : List (List ℕ) → Type 0 where
  no_sub : {line next : List ℕ} {rest : List (List ℕ)} → Bad sub_line line → NoSub (line ∷ (next ∷ rest))
  no_end : {last : List ℕ} → 0 < length last → NoSub (last ∷ [])

-- one `now=`, one `client=` and one `header=` line, then any number of `sub=` lines; those above the fault are well formed, and the
-- `sub=` lines among them were granted
pub data Malformed : List (List ℕ) → Type 0 where
  at_now : {rest : List (List ℕ)} → NoLine now_line rest → Malformed rest
  at_client : {now : List ℕ} {rest : List (List ℕ)} → is_line now_line now ≡ true → NoLine client_line rest → Malformed (now ∷ rest)
  at_header : {now client : List ℕ} {rest : List (List ℕ)} → is_line now_line now ≡ true → is_line client_line client ≡ true
      → NoLine header_line rest → Malformed (now ∷ (client ∷ rest))
  at_sub : {now client header : List ℕ} (subs rest : List (List ℕ)) {book : List ℕ}
      → is_line now_line now ≡ true → is_line client_line client ≡ true → is_line header_line header ≡ true
      → every (is_line sub_line) subs ≡ true → each_done adds_line empty (map sub_line.value subs) ≡ granted book
      → NoSub rest → Malformed (now ∷ (client ∷ (header ∷ (subs ++ rest))))
