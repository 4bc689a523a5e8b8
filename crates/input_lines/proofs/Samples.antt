-- The sample lines of the paper say what it says they do, and lines with too few or too many digits have not the form: by computing.
use Prim.Native.Nat.{ℕ}
use mathlib.Core.Path.{◌≡◌, refl}
use mathlib.Core.List.{List, []}
use mathlib.Core.Bool.{false}
use Rattle.laws.specs.Order.{granted, refused}
use Rattle.laws.specs.Text.{ascii}
use Rattle.input_lines.specs.Lines.{pieces, is_line}
use Rattle.input_lines.specs.Forms.{now_line, client_line, header_line, sub_line}
use Rattle.input_lines.specs.Next.{first_of, next_of, header_at}

abbrev sample : List ℕ
sample = ascii "now=2024 159 1840\nclient=0007\nheader=ZCZC-WXR-TOR-039173-039051-139069+0030-1591829-KCLE/NWS-\nsub=039051 0007 01\n"

-- each line of the sample, from the index after the line before it
pub record SampleLines : Type 0 where
  pub first : next_of now_line sample 0 ≡ granted ((2024, (159, (18, 40))), 18)
  pub second : next_of client_line sample 18 ≡ granted (7, 30)
  pub third : next_of header_line sample 30 ≡ granted (ascii "ZCZC-WXR-TOR-039173-039051-139069+0030-1591829-KCLE/NWS-", 94)
  pub stands : header_at sample 30 ≡ granted (37, (93, 94))
  pub fourth : next_of sub_line sample 94 ≡ granted ((39051, (7, 1)), 113)
  pub no_fifth : next_of sub_line sample 113 ≡ refused 23

pub sample_lines : SampleLines
unfolding next_of first_of pieces is_line now_line client_line header_line sub_line header_at
sample_lines = record { first = refl; second = refl; third = refl; stands = refl; fourth = refl; no_fifth = refl }

-- what has not the form
pub record OtherForms : Type 0 where
  pub few_digits : is_line client_line (ascii "client=7") ≡ false
  pub many_digits : is_line client_line (ascii "client=00007") ≡ false
  pub no_space : is_line now_line (ascii "now=2024-159 1840") ≡ false
  pub two_spaces : is_line now_line (ascii "now=2024  159 1840") ≡ false
  pub letter : is_line sub_line (ascii "sub=039O51 0007 01") ≡ false
  pub short_wish : is_line sub_line (ascii "sub=039051 0007 1") ≡ false
  pub other_word : is_line header_line (ascii "Header=ZCZC-") ≡ false
  pub blank : is_line sub_line [] ≡ false
  pub open_end : next_of client_line (ascii "client=0007") 0 ≡ refused 23

pub other_forms : OtherForms
unfolding next_of first_of pieces is_line now_line client_line header_line sub_line
other_forms = record {
  few_digits = refl;
  many_digits = refl;
  no_space = refl;
  two_spaces = refl;
  letter = refl;
  short_wish = refl;
  other_word = refl;
  blank = refl;
  open_end = refl;
}

-- an empty header is a line; values out of range have the form
pub record Taken : Type 0 where
  pub empty_header : header_at (ascii "header=\n") 0 ≡ granted (7, (7, 8))
  pub any_clock : next_of now_line (ascii "now=9999 999 9999\n") 0 ≡ granted ((9999, (999, (99, 99))), 18)
  pub any_client : next_of client_line (ascii "client=0000\n") 0 ≡ granted (0, 12)

pub taken : Taken
unfolding next_of first_of pieces is_line now_line client_line header_line header_at
taken = record { empty_header = refl; any_clock = refl; any_client = refl }
