-- The three letters are asked in their order; the class is handed on as it is.
use Rattle.same.proofs.same_class.Goals as goal

pub returns : goal.returns
returns c = record { says = c.class_of.ensures.says }
