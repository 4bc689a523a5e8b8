-- A text that is too long is refused; where the front stops, its refusal is the answer; else the rest decides.
use native.Mathlib.Omega.{arith}
use Rattle.laws.proofs.Handed.{handed}
use Rattle.header_reading.proofs.Answering.{too_long, ended}
use Rattle.header_reading.proofs.read.Goals as goal

pub returns-then-text-gt252 : goal.returns-then-text-gt252
returns-then-text-gt252 c = too_long c.args.text.now (omega arith)

pub returns-in_err-front : goal.returns-in_err-front
returns-in_err-front c =
    rw (handed c.from_residual.result _ c.from_residual.ensures.1) (ended c.args.text.now c.front_of.new.codes (omega arith) _ c.in_err-front.ensures)
