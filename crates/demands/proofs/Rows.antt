-- What is said by rows tried from the top goes by them: the paper's sentence on numbers.
use mathlib.Core.List.{List}
use Rattle.laws.specs.Order.{Row, in_order}
use Rattle.laws.proofs.Order.{exactly, said_first, said_last}
use Rattle.demands.specs.Forms.{GoesBy}

pub by_rows : {A : Type 0} (rows : List (Row A)) (last : A) → GoesBy rows last (in_order rows last)
by_rows rows last = record {
  one_of = exactly rows last;
  first = λ x p. said_first x rows last p;
  none = said_last rows last;
}
