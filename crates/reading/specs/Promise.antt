-- What reading an input promises. Paper 01, "Numbers and what they leave", the report program.
use Rattle.std.specs.Prelude.{ℕ, ◌≡◌, List, length, Option, Result}
use Rattle.reading.specs.Reading.{OneRead, read_in_turn, Within, Holds, Gone}

-- the answer and the space follow from the reads `reads`, those that the proof of the call gives; of the input's bytes, where they are known,
-- `rest` is what is left; the lent space holds `space`, and then `left`
pub record ReadInputPromise {E : Type 0} (input rest : Option (List ℕ)) (space left : List ℕ) (r : Result ℕ E) : Type 0 where
  pub reads : List (OneRead E)
  pub says : (r, left) ≡ read_in_turn reads 0 space
  pub kept : length left ≡ length space
  pub within : Within (length left) r
  pub holds : Holds input left r
  pub gone : Gone input rest left r
