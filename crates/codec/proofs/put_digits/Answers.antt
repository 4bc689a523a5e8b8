-- The same number in a wider word: what put_count promises is what is asked.
use Rattle.codec.proofs.put_digits.Goals as goal

pub returns : goal.returns
returns c = c.put_count.ensures
