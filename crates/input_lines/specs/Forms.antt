-- Paper 01, "The report program": the forms of the input's lines. The digits are as many as shown.
use Rattle.std.specs.Prelude.{ℕ, List}
use Rattle.laws.specs.Text.{ascii}
use Rattle.codec.specs.Kind.{Kind, digits, ◌⊗◌, tag}
use Rattle.input_lines.specs.Lines.{LineForm, whole, after_word}

abbrev pub space : List ℕ
space = ascii " "

-- `now=2024 159 1840`: year, day, hour, minute
abbrev pub now_kind : Kind (ℕ × (ℕ × (ℕ × ℕ)))
now_kind = tag (ascii "now=") (digits 4) ⊗ tag space (digits 3) ⊗ tag space (digits 2) ⊗ digits 2

unfoldable pub now_line : LineForm (ℕ × (ℕ × (ℕ × ℕ)))
now_line = whole now_kind

-- `client=0007`
abbrev pub client_kind : Kind ℕ
client_kind = tag (ascii "client=") (digits 4)

unfoldable pub client_line : LineForm ℕ
client_line = whole client_kind

-- `header=`: the header is everything after its `=`
abbrev pub header_word : List ℕ
header_word = ascii "header="

unfoldable pub header_line : LineForm (List ℕ)
header_line = after_word header_word

-- `sub=039051 0007 01`: place, client, wish
abbrev pub sub_kind : Kind (ℕ × (ℕ × ℕ))
sub_kind = tag (ascii "sub=") (digits 6) ⊗ tag space (digits 4) ⊗ tag space (digits 2)

unfoldable pub sub_line : LineForm (ℕ × (ℕ × ℕ))
sub_line = whole sub_kind
