-- Reading stops, in both directions, at 252, at the first field from the left that does not stand, or at the leftover.
use Prim.Native.Nat.{ℕ, ◌+◌, ◌≤◌}
use mathlib.Core.Path.{◌≡◌, refl, sym, ap, ◌∙◌}
use mathlib.Core.Bool.{Bool, true, false}
use mathlib.Core.List.{List, [], ◌∷◌}
use native.Mathlib.Omega.{arith}
use lib.ListN.{length, take, drop}
use lib.Dec.{ltb}
use borrow.Author.Tests.{ltb-true, ltb-false}
use Rattle.laws.specs.Order.{refused_at, choose}
use Rattle.laws.proofs.Clash.{clash}
use Rattle.codec.specs.Codec.{Out, got, no, fits, is, field, ◌▷◌, list_of}
use Rattle.codec.specs.Law.{Stops}
use Rattle.codec.proofs.CodecLaws.{field_law}
use Rattle.codec.proofs.Stages.{At, stop, next, last, last_stop, left_is, field_no, field_yes}
use Rattle.codec.proofs.Stops.{list_stops, stops_list, then_stops, stops_then}
use Rattle.header.specs.Header.{dash, plus, start, origin, event, place, duration, issue, sender, Front, front, header}
use Rattle.header.specs.Reading.{to_the_end, read_says, ReadStops, long, in_field, left, Opened, PlacesEnd}
use Rattle.header.specs.Reading.{TableStops, at_start, at_origin, at_event, at_place, at_duration, at_issue, at_sender}
use Rattle.header.specs.Parts.{places, duration_and_issue}
use Rattle.header.proofs.Round.{duration_law, places_law}
use Rattle.header.proofs.Stages.{no_start, no_origin, no_event, at_13, no_list, at_times}
use Rattle.header.proofs.Says.{over, stops, left_over, no_front, before_sender}

-- ---- read

pub read_stops : (t : List ℕ) (n i : ℕ) → read_says t ≡ refused_at n i → ReadStops t n i
unfolding read_says
read_stops t n i e = go (ltb 252 (length t)) refl e
  where
    end : length t ≤ 252 → (o : Out (Front × List ℕ)) → header.get t 0 ≡ o → to_the_end o ≡ refused_at n i → ReadStops t n i
    end l (no m j) h e = let em : m ≡ n = cc in let ej : j ≡ i = cc in in_field l (h ∙ (λ q. no (em q) (ej q)))
    end l (got a [] j) h e = clash cc
    end l (got a (x ∷ r) j) h e = let en : 12 ≡ n = cc in let ej : j ≡ i = cc in rw (← en, ← ej) (left l h)

    go : (b : Bool) → ltb 252 (length t) ≡ b → choose b (refused_at 4 252) (to_the_end (header.get t 0)) ≡ refused_at n i → ReadStops t n i
    go true h e = let en : 4 ≡ n = cc in let ei : 252 ≡ i = cc in rw (← en, ← ei) (long (ltb-true 252 (length t) h))
    go false h e = end (ltb-false 252 (length t) h) (header.get t 0) refl e

pub stops_read : (t : List ℕ) (n i : ℕ) → ReadStops t n i → read_says t ≡ refused_at n i
stops_read t n i (long h) = over t h
stops_read t n i (in_field {n = m} {i = k} l h) = stops t m k l h
stops_read t n i (left {h = h} {x = x} {rest = r} {i = k} l g) = left_over t h x r k l g

-- ---- the table is the front and then the sender

pub header_stops : (t : List ℕ) (n i : ℕ) → header.get t 0 ≡ no n i → Stops front (field 11 sender dash) t 0 n i
unfolding header
header_stops t n i e = then_stops front (field 11 sender dash) t 0 n i e

pub stops_header : (t : List ℕ) (n i : ℕ) → Stops front (field 11 sender dash) t 0 n i → header.get t 0 ≡ no n i
unfolding header
stops_header t n i s = stops_then front (field 11 sender dash) t 0 n i s

-- ---- field by field

list_of_places : (t : List ℕ) (i : ℕ) → (list_of 31 8 place dash plus).get (drop i t) i ≡ places.get (drop i t) i
unfolding places
list_of_places t i = refl

open_at : (t : List ℕ) → Opened t → At t front 0 (places ▷ duration_and_issue) 13 (λ b. (tt, (take 3 (drop 5 t), (take 3 (drop 9 t), b))))
open_at t o = at_13 t o.five o.six o.seven

module _ (t : List ℕ) (j : ℕ) (l : PlacesEnd t j) where
  -- the fields up to the places, and the rest
  abbrev with : ℕ × (ℕ × (ℕ × ℕ)) → Front
  with b = (tt, (take 3 (drop 5 t), (take 3 (drop 9 t), (l.places, b))))

  abbrev lasting : ℕ
  lasting = duration.value (take 4 (drop j t))

  times_at : At t front 0 (field 9 duration dash ▷ field 10 issue dash) j with
  unfolding duration_and_issue
  times_at = at_times t (λ b. (tt, (take 3 (drop 5 t), (take 3 (drop 9 t), b)))) (open_at t l.opened) l.places j (sym (list_of_places t 13) ∙ l.eight)

  no_nine : fits duration (is dash) (drop j t) ≡ false → header.get t 0 ≡ no 9 j
  no_nine h = no_front t 9 j (stop (field 9 duration dash) (field 10 issue dash) times_at 9 j (sym (field_no 9 duration dash t j h)))

  module _ (h9 : fits duration (is dash) (drop j t) ≡ true) where
    issue_at : At t front 0 (field 10 issue dash) (j + 5) (λ b. with (lasting, b))
    issue_at =
        next (field 9 duration dash) (field 10 issue dash) times_at (field_law 9 duration dash duration_law) lasting (drop (j + 5) t) (j + 5)
        (sym (field_yes 9 duration dash t j lasting h9 refl))

    no_ten : fits issue (is dash) (drop (j + 5) t) ≡ false → header.get t 0 ≡ no 10 (j + 5)
    no_ten h = no_front t 10 (j + 5) (last_stop issue_at 10 (j + 5) (sym (field_no 10 issue dash t (j + 5) h)))

    module _ (h10 : fits issue (is dash) (drop (j + 5) t) ≡ true) where
      abbrev moment : ℕ × (ℕ × ℕ)
      moment = issue.value (take 7 (drop (j + 5) t))

      sender_at : At t header 0 (field 11 sender dash) (j + 5 + 8) (λ b. (with (lasting, moment), b))
      sender_at = before_sender t (with (lasting, moment)) (j + 5 + 8)
          (last issue_at moment (drop (j + 5 + 8) t) (j + 5 + 8) (sym (field_yes 10 issue dash t (j + 5) moment h10 refl)))

      no_eleven : fits sender (is dash) (drop (j + 5 + 8) t) ≡ false → header.get t 0 ≡ no 11 (j + 5 + 8)
      no_eleven h = last_stop sender_at 11 (j + 5 + 8) (sym (field_no 11 sender dash t (j + 5 + 8) h))

      all_stand : fits sender (is dash) (drop (j + 5 + 8) t) ≡ true → (n i : ℕ) → header.get t 0 ≡ no n i → ⊥
      all_stand h n i e =
          let k = j + 5 + 8 in
          let g = last sender_at (take 8 (drop k t)) (drop (k + 9) t) (k + 9) (sym (field_yes 11 sender dash t k (take 8 (drop k t)) h refl)) in
          let z : ◌≡◌ {A = ℕ} 0 1 = cc in
          omega arith

pub stops_table : (t : List ℕ) (n i : ℕ) → TableStops t n i → header.get t 0 ≡ no n i
stops_table t n i (at_start h) = no_front t 5 0 (no_start t h)
stops_table t n i (at_origin f5 h) = no_front t 6 5 (no_origin t f5 h)
stops_table t n i (at_event f5 f6 h) = no_front t 7 9 (no_event t f5 f6 h)
stops_table t n i (at_place {i = k} o h) =
    no_front t 8 k (no_list t _ (open_at t o) 8 k (sym (list_of_places t 13) ∙ stops_list 8 place dash plus 31 (drop 13 t) 13 k h))
stops_table t n i (at_duration {j = j} l h) = no_nine t j l h
stops_table t n i (at_issue {j = j} l h9 h) = no_ten t j l h9 h
stops_table t n i (at_sender {j = j} l h9 h10 h) = no_eleven t j l h9 h10 h

pub table_stops : (t : List ℕ) (n i : ℕ) → header.get t 0 ≡ no n i → TableStops t n i
table_stops t n i e = five (fits start (is dash) (drop 0 t)) refl
  where
    -- the number and the index are those of the field that does not stand
    found : (m k : ℕ) → TableStops t m k → TableStops t n i
    found m k s =
        let g : no m k ≡ no n i = sym (stops_table t m k s) ∙ e in
        let em : m ≡ n = cc in
        let ek : k ≡ i = cc in
        rw (← em, ← ek) s

    eleven : (j : ℕ) (l : PlacesEnd t j) (h9 : fits duration (is dash) (drop j t) ≡ true) (h10 : fits issue (is dash) (drop (j + 5) t) ≡ true)
        → (b : Bool) → fits sender (is dash) (drop (j + 5 + 8) t) ≡ b → TableStops t n i
    eleven j l h9 h10 true h = absurd (all_stand t j l h9 h10 h n i e)
    eleven j l h9 h10 false h = found 11 (j + 5 + 8) (at_sender l h9 h10 h)

    ten : (j : ℕ) (l : PlacesEnd t j) → fits duration (is dash) (drop j t) ≡ true → (b : Bool) → fits issue (is dash) (drop (j + 5) t) ≡ b → TableStops t n i
    ten j l h9 true h = eleven j l h9 h (fits sender (is dash) (drop (j + 5 + 8) t)) refl
    ten j l h9 false h = found 10 (j + 5) (at_issue l h9 h)

    nine : (j : ℕ) (l : PlacesEnd t j) → (b : Bool) → fits duration (is dash) (drop j t) ≡ b → TableStops t n i
    nine j l true h = ten j l h (fits issue (is dash) (drop (j + 5) t)) refl
    nine j l false h = found 9 j (at_duration l h)

    eight : Opened t → (o : Out (List ℕ)) → (list_of 31 8 place dash plus).get (drop 13 t) 13 ≡ o → TableStops t n i
    eight w (got ps r j) h =
        let q : r ≡ drop j t = left_is (list_of 31 8 place dash plus) places_law t 13 ps r j h in
        nine j (record { opened = w; places = ps; eight = h ∙ ap (λ (s : List ℕ). got ps s j) q }) (fits duration (is dash) (drop j t)) refl
    eight w (no x j) h = found 8 j (at_place w (list_stops 8 place dash plus 31 (drop 13 t) 13 x j h).1)

    seven : fits start (is dash) (drop 0 t) ≡ true → fits origin (is dash) (drop 5 t) ≡ true → (b : Bool) → fits event (is dash) (drop 9 t) ≡ b
        → TableStops t n i
    seven f5 f6 true h = eight (record { five = f5; six = f6; seven = h }) ((list_of 31 8 place dash plus).get (drop 13 t) 13) refl
    seven f5 f6 false h = found 7 9 (at_event f5 f6 h)

    six : fits start (is dash) (drop 0 t) ≡ true → (b : Bool) → fits origin (is dash) (drop 5 t) ≡ b → TableStops t n i
    six f5 true h = seven f5 h (fits event (is dash) (drop 9 t)) refl
    six f5 false h = found 6 5 (at_origin f5 h)

    five : (b : Bool) → fits start (is dash) (drop 0 t) ≡ b → TableStops t n i
    five true h = six h (fits origin (is dash) (drop 5 t)) refl
    five false h = found 5 0 (at_start h)
