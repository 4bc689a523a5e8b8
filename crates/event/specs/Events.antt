-- Paper 01, "Events and classes": the list of 61 event codes, in the paper's order and in its five groups.
use Rattle.std.specs.Prelude.{ℕ, Bool, true, ◌&&◌, not, List, [], ◌∷◌, ◌++◌}
use Prim.Native.String.{String}
use Rattle.laws.specs.Text.{ascii, one_of}

abbrev pub weather : List String
weather =
    "BZW" ∷ "CFA" ∷ "CFW" ∷ "DSW" ∷ "EWW" ∷ "FFA" ∷ "FFW" ∷ "FFS" ∷ "FLA" ∷ "FLW" ∷ "FLS"
    ∷ "HWA" ∷ "HWW" ∷ "HUA" ∷ "HUW" ∷ "HLS" ∷ "SVA" ∷ "SVR" ∷ "SVS" ∷ "SMW" ∷ "SPS" ∷ "SQW"
    ∷ "SSA" ∷ "SSW" ∷ "TOA" ∷ "TOR" ∷ "TRA" ∷ "TRW" ∷ "TSA" ∷ "TSW" ∷ "WSA" ∷ "WSW" ∷ []

abbrev pub national : List String
national = "EAN" ∷ "NIC" ∷ "NPT" ∷ "RMT" ∷ "RWT" ∷ []

abbrev pub civil : List String
civil =
    "ADR" ∷ "AVA" ∷ "AVW" ∷ "BLU" ∷ "CAE" ∷ "CDW" ∷ "CEM" ∷ "EQW" ∷ "EVI" ∷ "FRW" ∷ "HMW"
    ∷ "LEW" ∷ "LAE" ∷ "TOE" ∷ "NUW" ∷ "RHW" ∷ "SPW" ∷ "VOW" ∷ []

abbrev pub administrative : List String
administrative = "NMN" ∷ "DMO" ∷ []

abbrev pub transmitter : List String
transmitter = "TXF" ∷ "TXO" ∷ "TXB" ∷ "TXP" ∷ []

unfoldable pub events : List String
events = weather ++ (national ++ (civil ++ (administrative ++ transmitter)))

-- a code is three bytes
abbrev pub code : ℕ → ℕ → ℕ → List ℕ
code a b c = a ∷ b ∷ c ∷ []

-- a code is on the list
unfoldable pub is_listed : List ℕ → Bool
is_listed e = one_of events e

-- no word of a list is one of those after it
abbrev pub no_double : List String → Bool
no_double [] = true
no_double (w ∷ l) = not (one_of l (ascii w)) && no_double l
