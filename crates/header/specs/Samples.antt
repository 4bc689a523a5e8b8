-- Texts of paper 01 that examples and tables speak of, and what they say.
use Rattle.std.specs.Prelude.{ℕ, List, [], ◌∷◌, ◌++◌}
use Prim.Native.String.{String}
use Rattle.laws.specs.Text.{ascii}
use Rattle.header.specs.Header.{Alert}

-- the sample's header, and what it says
abbrev pub sample : List ℕ
sample = ascii "ZCZC-WXR-TOR-039173-039051-139069+0030-1591829-KCLE/NWS-"

abbrev pub sample_says : Alert
sample_says = record {
  origin = ascii "WXR";
  event = ascii "TOR";
  places = 39173 ∷ 39051 ∷ 139069 ∷ [];
  minutes = 30;
  day = 159;
  hour = 18;
  minute = 29;
  sender = ascii "KCLE/NWS";
}

-- a header with one place and this duration, as it is written; and what it says where that is m minutes
abbrev pub lasting : String → List ℕ
lasting hhmm = ascii "ZCZC-WXR-TOR-039173+" ++ (ascii hhmm ++ ascii "-1591829-KCLE/NWS-")

abbrev pub lasts : ℕ → Alert
lasts m = record {
  origin = ascii "WXR";
  event = ascii "TOR";
  places = 39173 ∷ [];
  minutes = m;
  day = 159;
  hour = 18;
  minute = 29;
  sender = ascii "KCLE/NWS";
}
