-- What is copied over a part is pasted there.
use native.Mathlib.Omega.{arith}
use Rattle.laws.proofs.Pasted.{pasted_part}
use Rattle.c_words.proofs.put_words.Goals as goal

pub returns : goal.returns
returns c = pasted_part _ _ _ _ _ c.copy_from_slice.ensures.after (omega arith)
