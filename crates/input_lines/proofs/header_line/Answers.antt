-- A line that was found has at most 300 bytes before its byte 10; it is a header line if it begins with the word.
use Rattle.std.proofs.Common.{sym, ◌∙◌}
use Rattle.input_lines.proofs.Ends.{found}
use Rattle.input_lines.proofs.Headers.{header_broken, header_other, header_good}
use Rattle.input_lines.proofs.header_line.Goals as goal

pub returns-in_default : goal.returns-in_default
returns-in_default c = record { says = header_broken _ _ (sym c.line_at.ensures.value ∙ c.in_default.is) }

pub returns-then-not-starts_with : goal.returns-then-not-starts_with
returns-then-not-starts_with c =
    record { says = header_other _ _ _ (found _ _ _ (sym c.in-Some.ensures.value)) (sym c.if-not-starts_with.ensures.value) }

pub returns : goal.returns
returns c = record { says = header_good _ _ _ (found _ _ _ (sym c.in-Some.ensures.value)) (sym c.if-not-starts_with.ensures.value) }
