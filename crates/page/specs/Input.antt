-- Paper 01, "The report program": line by line, the form is checked and each `sub=` is added; then comes the report, which alone
-- judges the values of the first three lines.
use Rattle.std.specs.Prelude.{ℕ, List}
use Rattle.laws.specs.Order.{Said, granted, next}
use Rattle.input_lines.specs.Lines.{pieces}
use Rattle.input_lines.specs.Forms.{now_line, client_line, header_line, sub_line}
use Rattle.input_lines.specs.LineByLine.{one_line, each_line}
use Rattle.clock.specs.declared.Clock.{Clock}
use Rattle.book_rules.specs.Form.{form}
use Rattle.book_rules.specs.Rules.{empty}
use Rattle.book_rules.specs.Edits.{add_says, added}
use Rattle.report.specs.Report.{Full, report_says}

-- the clock of a `now=` line
abbrev pub clock_of : ℕ × (ℕ × (ℕ × ℕ)) → Clock
clock_of (year, (day, (hour, minute))) = record { year = year; day = day; hour = hour; minute = minute }

-- the addition of a `sub=` line
abbrev pub adds_line : List ℕ → ℕ × (ℕ × ℕ) → Said (List ℕ)
adds_line book (place, (client, wish)) = next (add_says form book place client wish) (λ u. granted (added form place client wish book))

-- the program lends the report room for 4,096 pairs of words
abbrev pub hit_room : ℕ
hit_room = 8192

-- the client, and what the report says
abbrev pub Shown : Type 0
Shown = ℕ × Full

unfoldable pub report_shows : List ℕ → ℕ → List ℕ → Clock → Said Shown
report_shows book client header at = next (report_says book client header at hit_room) (λ g. granted (client, g))

-- one `now=`, one `client=` and one `header=` line, then any number of `sub=` lines, then the report
unfoldable pub lines_say : List (List ℕ) → Said Shown
lines_say lines =
    one_line now_line lines (λ clock lines.
    one_line client_line lines (λ client lines.
    one_line header_line lines (λ header lines.
    next (each_line sub_line adds_line empty lines) (λ book.
    report_shows book client header (clock_of clock)))))

unfoldable pub input_says : List ℕ → Said Shown
input_says input = lines_say (pieces input)
