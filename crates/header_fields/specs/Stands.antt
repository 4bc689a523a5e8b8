-- What is found where so many bytes and the mark `-` may stand, by any test of the bytes.
use Rattle.std.specs.Prelude.{ℕ, ◌≤◌, ◌<◌, ◌≡◌, Bool, false, ◌&&◌, List, length, get_or, take, drop}
use Rattle.codec.specs.Codec.{is}
use Rattle.header.specs.Header.{dash}

-- too few bytes are left; or the test answers b of the bytes, and then the mark decides
pub data StandsBy (width : ℕ) (Answers : List ℕ → Bool → Type 0) (text : List ℕ) (at : ℕ) (r : Bool) : Type 0 where
  few : length (drop at text) ≤ width → r ≡ false → StandsBy width Answers text at r
  asked : (b : Bool) → width < length (drop at text) → Answers (take width (drop at text)) b → r ≡ b && is dash (get_or (drop at text) width 0)
      → StandsBy width Answers text at r
