-- The reader's answers, from what stands before the sender, and the sender.
use Prim.Native.Nat.{ℕ, ◌+◌, ◌≤◌, ◌<◌}
use mathlib.Core.Path.{◌≡◌, refl, sym, ap, ◌∙◌}
use mathlib.Core.List.{List}
use mathlib.Core.Bool.{true, false}
use native.Mathlib.Omega.{arith}
use lib.ListN.{length, take, drop}
use Rattle.std.specs.Prelude.{Ok, Err}
use Rattle.laws.specs.Order.{granted, refused_at}
use Rattle.refusals.specs.Refusals.{says}
use Rattle.refusals.specs.declared.Refusal.{Refusal}
use Rattle.refusals.specs.declared.Refusal.TheVariants.{LongText, NoSenderAt, MoreAt}
use Rattle.codec.specs.Codec.{got, fits, is, field}
use Rattle.codec.proofs.Fits.{fits_long}
use Rattle.codec.proofs.Stages.{At, last, last_stop, field_no, field_yes}
use Rattle.header.specs.Header.{Front, front, dash, sender, header, Alert, alert_of}
use Rattle.header.specs.Reading.{read_says}
use Rattle.header.specs.Answers.{counted, alert_in, fields_for}
use Rattle.header.specs.Promise.{ReadPromise}
use Rattle.header.specs.declared.Fields.{Fields}
use Rattle.header.proofs.Round.{front_law, front_sized}
use Rattle.header.proofs.Says.{over, stops, beyond, ends, no_front, before_sender, counted_take, filled}
use Rattle.header_fields.proofs.Told.{stopped}
use Rattle.header_reading.specs.Steps.{Filled, FrontOf, before}
use Rattle.header_reading.specs.declared.Opening.{Opening}

stops_with : (t : List ℕ) (e : Refusal) (n i : ℕ) → says {A = Alert} e ≡ refused_at n i → read_says t ≡ refused_at n i → ReadPromise t (Err e)
stops_with t e n i h r = record { says = h ∙ sym r; fields = sym (ap fields_for r) }

-- what stands before the sender, of fields
abbrev fronted : Fields → Front
fronted f = (tt, (f.origin, (f.event, (take f.count f.places, (f.duration, (f.day, (f.hour, f.minute)))))))

-- the fields, of which the places stand in words that are zeros behind them
an_answer : (t : List ℕ) (f : Fields) → Filled f.places f.count → read_says t ≡ granted (alert_of (fronted f, f.sender)) → ReadPromise t (Ok f)
an_answer t f w e =
    let k : take f.count f.places ≡ counted f.places f.count =
    sym (counted_take f.places f.count (omega (arith, w.low, w.len))) in
    let g : read_says t ≡ granted (alert_in f) = e ∙ (λ q. granted (record {
      origin = f.origin;
      event = f.event;
      places = k q;
      minutes = f.duration;
      day = f.day;
      hour = f.hour;
      minute = f.minute;
      sender = f.sender;
    })) in
    record { says = sym g; fields = filled f w.low w.rest w.len ∙ sym (ap fields_for g) }

pub too_long : (t : List ℕ) → 252 < length t → ReadPromise t (Err LongText)
too_long t h = stops_with t LongText 4 252 refl (over t h)

module _ (t codes : List ℕ) (short : length t ≤ 252) where
  pub ended : (e : Refusal) → FrontOf t codes (Err e) → ReadPromise t (Err e)
  ended e p =
      let s = stopped Alert (front.get t 0) e p in
      stops_with t e s.its s.at s.says (stops t s.its s.at short (no_front t s.its s.at s.stops))

  module _ (f : Opening) (p : FrontOf t codes (Ok f)) where
    abbrev all : Front
    all = before t codes f

    abbrev j : ℕ
    j = f.at

    begins : At t header 0 (field 11 sender dash) j (λ b. (all, b))
    begins = before_sender t all j (sym p.0)

    pub inside : j ≤ length t
    inside = begins.inside

    -- origin and event stand before it
    pub past : 33 ≤ j
    past =
        let r = front_law.reads t 0 all (drop j t) j (sym p.0) in
        let l = front_sized.sized all r.0 in
        omega (arith, r.2, l.1)

    pub no_sender : fits sender (is dash) (drop j t) ≡ false → ReadPromise t (Err (NoSenderAt j))
    no_sender n = stops_with t (NoSenderAt j) 11 j refl (stops t 11 j short (last_stop begins 11 j (sym (field_no 11 sender dash t j n))))

    module _ (y : fits sender (is dash) (drop j t) ≡ true) where
      pub sender_long : j + 8 < length t
      sender_long = fits_long sender (is dash) t j y

      after : header.get t 0 ≡ got (all, take 8 (drop j t)) (drop (j + 9) t) (j + 9)
      after = last begins (take 8 (drop j t)) (drop (j + 9) t) (j + 9) (sym (field_yes 11 sender dash t j (take 8 (drop j t)) y refl))

      pub left_over : (length t ≡ j + 9 → ⊥) → ReadPromise t (Err (MoreAt (j + 9)))
      left_over e = stops_with t (MoreAt (j + 9)) 12 (j + 9) refl (beyond t _ (j + 9) short e (omega (arith, sender_long)) after)

      abbrev fields_of : List ℕ → List ℕ → List ℕ → Fields
      fields_of o e w = record {
        places = codes;
        duration = f.minutes;
        count = f.count;
        day = f.issue.day;
        hour = f.issue.hour;
        minute = f.issue.minute;
        origin = o;
        event = e;
        sender = w;
      }

      pub all_read : (o e w : List ℕ) → o ≡ take 3 (drop 5 t) → e ≡ take 3 (drop 9 t) → w ≡ take 8 (drop j t) → length t ≡ j + 9
          → ReadPromise t (Ok (fields_of o e w))
      all_read o e w qo qe qw l =
          an_answer t (fields_of o e w) p.1
          (ends t (all, take 8 (drop j t)) (j + 9) short l after
          ∙ (λ q. granted (alert_of ((tt, (sym qo q, (sym qe q, (take f.count codes, (f.minutes, (f.issue.day, (f.issue.hour, f.issue.minute))))))), sym qw q))))
