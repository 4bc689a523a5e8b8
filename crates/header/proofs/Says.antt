-- How far the table came says what reading says: a field that does not stand, a leftover, or the end of the text.
use Prim.Native.Nat.{ℕ, ◌-◌, ◌≤◌, ◌<◌}
use mathlib.Core.Path.{◌≡◌, refl, sym, ap, ◌∙◌}
use mathlib.Core.List.{List, [], ◌∷◌, ◌++◌}
use native.Mathlib.Omega.{arith}
use lib.ListN.{length, take, drop, replicate, length-append, length-drop, length-replicate, take-append-drop}
use lib.Seq.{take-append-le, take_at, length-take-le}
use borrow.Author.Tests.{lt-ltb, le-ltb}
use Rattle.laws.specs.Order.{granted, refused_at}
use Rattle.codec.specs.Codec.{got, no, field}
use Rattle.codec.proofs.Stages.{At, begin, next}
use Rattle.header.specs.Header.{dash, sender, Front, front, header, Alert, alert_of}
use Rattle.header.specs.Reading.{read_says}
use Rattle.header.specs.Answers.{counted, alert_in, fields_of}
use Rattle.header.specs.declared.Fields.{Fields}
use Rattle.header.proofs.Round.{front_law}

module _ (t : List ℕ) where
  pub over : 252 < length t → read_says t ≡ refused_at 4 252
  unfolding read_says
  over h = simp (lt-ltb 252 (length t) h)

  pub stops : (n i : ℕ) → length t ≤ 252 → header.get t 0 ≡ no n i → read_says t ≡ refused_at n i
  unfolding read_says
  stops n i l h = simp (le-ltb 252 (length t) l, h)

  pub left_over : (h : Front × List ℕ) (x : ℕ) (r : List ℕ) (i : ℕ) → length t ≤ 252 → header.get t 0 ≡ got h (x ∷ r) i → read_says t ≡ refused_at 12 i
  unfolding read_says
  left_over h x r i l g = simp (le-ltb 252 (length t) l, g)

  pub whole : (h : Front × List ℕ) (i : ℕ) → length t ≤ 252 → header.get t 0 ≡ got h [] i → read_says t ≡ granted (alert_of h)
  unfolding read_says
  whole h i l g = simp (le-ltb 252 (length t) l, g)

  -- with the next index, where code knows whether the text ends there
  pub beyond : (h : Front × List ℕ) (i : ℕ) → length t ≤ 252 → (length t ≡ i → ⊥) → i ≤ length t → header.get t 0 ≡ got h (drop i t) i
      → read_says t ≡ refused_at 12 i
  beyond h i l e k g = go (drop i t) refl
    where
      go : (r : List ℕ) → drop i t ≡ r → read_says t ≡ refused_at 12 i
      go [] q = absurd (e (omega (arith, length-drop i t, ap length q)))
      go (x ∷ r) q = left_over h x r i l (g ∙ ap (λ (s : List ℕ). got h s i) q)

  pub ends : (h : Front × List ℕ) (i : ℕ) → length t ≤ 252 → length t ≡ i → header.get t 0 ≡ got h (drop i t) i → read_says t ≡ granted (alert_of h)
  ends h i l e g = go (drop i t) refl
    where
      go : (r : List ℕ) → drop i t ≡ r → read_says t ≡ granted (alert_of h)
      go [] q = whole h i l (g ∙ ap (λ (s : List ℕ). got h s i) q)
      go (x ∷ r) q = absurd (omega (arith, length-drop i t, ap length q))

  -- ---- the front, and then the sender

  pub no_front : (n i : ℕ) → front.get t 0 ≡ no n i → header.get t 0 ≡ no n i
  unfolding header
  no_front n i h = simp h

  pub before_sender : (h : Front) (j : ℕ) → front.get t 0 ≡ got h (drop j t) j → At t header 0 (field 11 sender dash) j (λ b. (h, b))
  unfolding header
  before_sender h j e = next front (field 11 sender dash) (begin t header 0 (omega arith)) front_law h (drop j t) j e

-- ---- fields and what they say

-- as many places as are counted
pub counted_length : (places : List ℕ) (n : ℕ) → length (counted places n) ≡ n
counted_length places n = length-take-le n (places ++ replicate n 0) (omega (arith, length-append places (replicate n 0), length-replicate {A = ℕ} n 0))

pub counted_take : (places : List ℕ) (n : ℕ) → n ≤ length places → counted places n ≡ take n places
counted_take places n h = take-append-le n places (replicate n 0) h

-- fields keep all that an alert says
pub kept : (a : Alert) → alert_in (fields_of a) ≡ a
kept a =
    let ps : List ℕ = a.places in
    let z : List ℕ = replicate (31 - length ps) 0 in
    let e : counted (ps ++ z) (length ps) ≡ ps =
    counted_take (ps ++ z) (length ps) (omega (arith, length-append ps z)) ∙ take_at ps z (length ps) refl in
    λ q. record {
      origin = a.origin;
      event = a.event;
      places = e q;
      minutes = a.minutes;
      day = a.day;
      hour = a.hour;
      minute = a.minute;
      sender = a.sender;
    }

module _ (f : Fields) (low : f.count ≤ 31) (rest : drop f.count f.places ≡ replicate (31 - f.count) 0) (len : length f.places ≡ 31) where
  -- fields with zeros behind their places are the fields of what they say
  pub filled : f ≡ fields_of (alert_in f)
  filled =
      let n : length (counted f.places f.count) ≡ f.count = counted_length f.places f.count in
      let e : f.places ≡ counted f.places f.count ++ replicate (31 - length (counted f.places f.count)) 0 =
      sym (take-append-drop f.count f.places)
      ∙ (λ q. sym (counted_take f.places f.count (omega arith)) q ++ rest q)
      ∙ ap (λ (m : ℕ). counted f.places f.count ++ replicate (31 - m) 0) (sym n) in
      λ q. record {
        origin = f.origin;
        event = f.event;
        places = e q;
        count = sym n q;
        duration = f.duration;
        day = f.day;
        hour = f.hour;
        minute = f.minute;
        sender = f.sender;
      }
