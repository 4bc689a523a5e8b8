-- Where a line ends, by the first byte 10 behind its start; one too far off ends no line.
use Rattle.std.proofs.Common.{◌∙◌, arith}
use Rattle.input_lines.proofs.Ends.{line_past, line_none, line_long, line_ends}
use Rattle.input_lines.proofs.line_at.Goals as goal

pub returns-in_err-get-clause-value : goal.returns-in_err-get-clause-value
returns-in_err-get-clause-value c = c.from_residual.ensures ∙ line_past _ _ (omega (arith, c.in_err-get.ensures.lookup.0))

pub returns-in_err-n-clause-value : goal.returns-in_err-n-clause-value
returns-in_err-n-clause-value c = c.from_residual-in_err-n.ensures ∙ line_none _ _ _ c.in_ok-get.ensures.lookup.0.2 c.in_err-n.ensures

pub returns-then-n-gt300-clause-value : goal.returns-then-n-gt300-clause-value
returns-then-n-gt300-clause-value c = line_long _ _ _ c.in_ok-get.ensures.lookup.0.2 _ c.in_ok-n.ensures (omega arith)

pub returns-clause-value : goal.returns-clause-value
returns-clause-value c = line_ends _ _ _ c.in_ok-get.ensures.lookup.0.2 _ c.in_ok-n.ensures c.if-n-gt300.false
