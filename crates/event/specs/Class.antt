-- Paper 01, "Events and classes": the class of a code, listed or not.
use Rattle.std.specs.Prelude.{ℕ, List, [], ◌∷◌, eqb, get_or}
use Prim.Native.Char.{code as letter}
use Rattle.laws.specs.Order.{◌when◌, in_order}
use Rattle.laws.specs.Text.{one_of}

-- by the third letter (001 A.5)
abbrev pub by_third : ℕ → ℕ
by_third third =
    in_order
    (
    1 when eqb third (letter "W")
    ∷ 2 when eqb third (letter "A")
    ∷ 3 when eqb third (letter "E")
    ∷ 4 when eqb third (letter "S")
    ∷ []
    )
    6

-- the codes that the paper names, and every other by its third letter
unfoldable pub class_of : List ℕ → ℕ
class_of e =
    in_order
    (
    0 when one_of ("TXF" ∷ "TXO" ∷ "TXB" ∷ "TXP" ∷ []) e
    ∷ 1 when one_of ("TOR" ∷ "SVR" ∷ []) e
    ∷ 3 when one_of ("EVI" ∷ "BLU" ∷ "CEM" ∷ []) e
    ∷ 5 when one_of ("NPT" ∷ "RMT" ∷ "RWT" ∷ "DMO" ∷ []) e
    ∷ 6 when one_of ("EAN" ∷ "NIC" ∷ "ADR" ∷ "NMN" ∷ []) e
    ∷ []
    )
    (by_third (get_or e 2 0))
