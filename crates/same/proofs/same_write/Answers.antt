-- It is the call of crate c_words on the same words and the same space.
use Rattle.same.proofs.same_write.Goals as goal

pub returns : goal.returns
returns c = c.write_words.ensures
