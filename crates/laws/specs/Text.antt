-- Words as bytes.
use Rattle.std.specs.Prelude.{ℕ, Bool, List, [], ◌∷◌}
use Prim.Native.String.{String, [] as end, ◌∷◌ as ◌then◌}
use Prim.Native.Char.{code}
use Rattle.laws.specs.Lists.{same, some}

-- the bytes of a word
abbrev pub ascii : String → List ℕ
ascii end = []
ascii (c then s) = code c ∷ ascii s

-- some bytes are one of these words
abbrev pub one_of : List String → List ℕ → Bool
one_of words b = some (λ w. same b (ascii w)) words
