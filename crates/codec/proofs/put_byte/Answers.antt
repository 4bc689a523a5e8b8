-- One byte set is that byte pasted.
use native.Mathlib.Omega.{arith}
use Rattle.laws.proofs.Pasted.{pasted_one}
use Rattle.codec.proofs.Puts.{put_yes, put_no}
use Rattle.codec.proofs.put_byte.Goals as goal

pub returns-then-out-at : goal.returns-then-out-at
returns-then-out-at c = put_no _ _ _ (omega arith)

pub returns : goal.returns
returns c = put_yes (omega arith) (pasted_one _ _ _ (omega arith))
