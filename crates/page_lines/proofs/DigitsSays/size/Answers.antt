-- As many bytes as digits.
use Rattle.std.proofs.Common.{sym}
use Rattle.laws.proofs.Decimal.{length_dig}
use Rattle.page_lines.proofs.DigitsSays.size.Goals as goal

pub returns : goal.returns
returns c = let s = c.args.self.now in sym (length_dig s.w s.n)
