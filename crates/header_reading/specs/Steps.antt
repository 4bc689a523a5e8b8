-- What the private functions of the reader answer, in the terms of the table.
use Rattle.std.specs.Prelude.{ℕ, ◌-◌, ◌≤◌, ◌≡◌, List, length, take, drop, replicate, Result, Ok, Err}
use Rattle.refusals.specs.Refusals.{says}
use Rattle.refusals.specs.declared.Refusal.{Refusal}
use Rattle.codec.specs.Codec.{Codec, got}
use Rattle.header.specs.Header.{front, Front}
use Rattle.header.specs.Parts.{places}
use Rattle.header_fields.specs.Says.{told}
use Rattle.header_reading.specs.declared.Opening.{Opening}

-- ---- a part of the table, read at an index: its value and the index behind it, or the refusal

abbrev pub Gets : {A : Type 0} → Codec A → List ℕ → ℕ → A → ℕ → Type 0
Gets c text at v j = got v (drop j text) j ≡ c.get (drop at text) at

abbrev pub StopsAs : {A : Type 0} → Codec A → List ℕ → ℕ → Refusal → Type 0
StopsAs c text at e = says e ≡ told (c.get (drop at text) at)

-- ---- the list of places

-- n of 31 words hold codes, and the rest are zeros
pub record Filled (codes : List ℕ) (n : ℕ) : Type 0 where
  pub low : n ≤ 31
  pub rest : drop n codes ≡ replicate (31 - n) 0
  pub len : length codes ≡ 31

-- so many places, and the index behind the last mark; where the list is refused, nobody looks at the words
abbrev pub PlacesAt : List ℕ → ℕ → List ℕ → Result (ℕ × ℕ) Refusal → Type 0
PlacesAt text at codes (Ok (n, j)) = Gets places text at (take n codes) j × Filled codes n
PlacesAt text at codes (Err e) = StopsAs places text at e

-- ---- everything before the sender

abbrev pub before : List ℕ → List ℕ → Opening → Front
before text codes f = (tt, (take 3 (drop 5 text), (take 3 (drop 9 text), (take f.count codes, (f.minutes, (f.issue.day, (f.issue.hour, f.issue.minute)))))))

abbrev pub FrontOf : List ℕ → List ℕ → Result Opening Refusal → Type 0
FrontOf text codes (Ok f) = Gets front text 0 (before text codes f) f.at × Filled codes f.count
FrontOf text codes (Err e) = StopsAs front text 0 e
