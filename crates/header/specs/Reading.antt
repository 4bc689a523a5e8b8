-- Paper 01, "The header text": reading. A text over 252 bytes is refused with 4 at index 252 before any field; fields are tried
-- from the left; after the sender comes nothing, and 12 has the index of the leftover.
use Rattle.std.specs.Prelude.{ℕ, ◌+◌, ◌<◌, ◌≤◌, ◌≡◌, List, [], ◌∷◌, true, false, length, drop, ltb}
use Rattle.laws.specs.Order.{Said, granted, refused_at, choose}
use Rattle.codec.specs.Codec.{Out, got, no, fits, is, list_of}
use Rattle.codec.specs.Law.{ListStops}
use Rattle.header.specs.Header.{dash, plus, start, origin, event, place, duration, issue, sender, Alert, Front, alert_of, header}

-- nothing may be left over
abbrev pub to_the_end : Out (Front × List ℕ) → Said Alert
to_the_end (got h [] i) = granted (alert_of h)
to_the_end (got h (x ∷ left) i) = refused_at 12 i
to_the_end (no n i) = refused_at n i

unfoldable pub read_says : List ℕ → Said Alert
read_says text = choose (ltb 252 (length text)) (refused_at 4 252) (to_the_end (header.get text 0))

-- where reading stops: at 252, in a field of the table, or at the leftover
pub data ReadStops (text : List ℕ) : ℕ → ℕ → Type 0 where
  long : 252 < length text → ReadStops text 4 252
  in_field : {n i : ℕ} → length text ≤ 252 → header.get text 0 ≡ no n i → ReadStops text n i
  left : {h : Front × List ℕ} {x : ℕ} {rest : List ℕ} {i : ℕ} → length text ≤ 252 → header.get text 0 ≡ got h (x ∷ rest) i → ReadStops text 12 i

-- ---- where the table stops, field by field

-- start, origin and event stand where they must
pub record Opened (text : List ℕ) : Type 0 where
  pub five : fits start (is dash) (drop 0 text) ≡ true
  pub six : fits origin (is dash) (drop 5 text) ≡ true
  pub seven : fits event (is dash) (drop 9 text) ≡ true

-- and the list of places ends before index j
pub record PlacesEnd (text : List ℕ) (j : ℕ) : Type 0 where
  pub opened : Opened text
  pub places : List ℕ
  pub eight : (list_of 31 8 place dash plus).get (drop 13 text) 13 ≡ got places (drop j text) j

-- the first field from the left that does not stand, with the index of its own first byte
pub data TableStops (text : List ℕ) : ℕ → ℕ → Type 0 where
  at_start : fits start (is dash) (drop 0 text) ≡ false → TableStops text 5 0
  at_origin : fits start (is dash) (drop 0 text) ≡ true → fits origin (is dash) (drop 5 text) ≡ false → TableStops text 6 5
  at_event : fits start (is dash) (drop 0 text) ≡ true → fits origin (is dash) (drop 5 text) ≡ true → fits event (is dash) (drop 9 text) ≡ false
      → TableStops text 7 9
  at_place : {i : ℕ} → Opened text → ListStops place dash plus 31 (drop 13 text) 13 i → TableStops text 8 i
  at_duration : {j : ℕ} → PlacesEnd text j → fits duration (is dash) (drop j text) ≡ false → TableStops text 9 j
  at_issue : {j : ℕ} → PlacesEnd text j → fits duration (is dash) (drop j text) ≡ true → fits issue (is dash) (drop (j + 5) text) ≡ false
      → TableStops text 10 (j + 5)
  at_sender : {j : ℕ} → PlacesEnd text j → fits duration (is dash) (drop j text) ≡ true → fits issue (is dash) (drop (j + 5) text) ≡ true
      → fits sender (is dash) (drop (j + 5 + 8) text) ≡ false → TableStops text 11 (j + 5 + 8)
