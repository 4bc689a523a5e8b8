-- The 31 words behind the nineteenth are all that follow.
use Rattle.c_words.specs.Words.{places_in}
use Rattle.c_words.proofs.places_in.Goals as goal

pub returns : goal.returns
unfolding places_in
returns c = c.copy_from_slice.ensures.after
