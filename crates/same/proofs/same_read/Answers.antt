-- It is the call of crate c_words, whose promise is this one.
use Rattle.same.proofs.same_read.Goals as goal

pub returns : goal.returns
returns c = c.read_words.ensures
