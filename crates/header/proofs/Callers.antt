-- A text that reads gives fields that the table allows: those who call `read` take it from here and need not open the table.
use Rattle.std.specs.Prelude.{Ok, Err}
use Prim.Native.Nat.{ℕ, ◌-◌, ◌/◌, ◌%◌, ◌≤◌}
use mathlib.Core.Path.{◌≡◌, refl, sym, ap, ◌∙◌}
use mathlib.Core.Bool.{Bool, true, ◌&&◌}
use mathlib.Core.List.{List}
use native.Mathlib.Omega.{arith}
use lib.ListN.{length, take, length-append, length-replicate, replicate}
use lib.Seq.{take_at}
use lib.Dec.{ltb, eqb}
use borrow.Author.Tests.{eqb-true}
use Rattle.laws.specs.Order.{Said, granted, refused, refused_at, none, more}
use Rattle.laws.specs.Lists.{every}
use Rattle.laws.specs.Numbers.{within}
use Rattle.laws.proofs.Clash.{clash}
use Rattle.laws.proofs.Tests.{and_l, and_r, not_not, within_lo, within_hi}
use Rattle.refusals.specs.Refusals.{says}
use Rattle.refusals.specs.declared.Refusal.{Refusal}
use Rattle.header.specs.Header.{is_origin, is_event, is_issue, is_sender, is_duration, place, front, header, Alert, text_of, WellFormed}
use Rattle.header.specs.Reading.{read_says}
use Rattle.header.specs.Answers.{fields_of, fields_for, said_read}
use Rattle.header.specs.Promise.{ReadPromise}
use Rattle.header.specs.declared.Fields.{Fields}
use Rattle.header.proofs.Round.{read_form, written}
use Rattle.header.proofs.Allowed.{duration_ok, issue_ok, Issued, issued}

-- ---- what the table allows, field by field

pub record Allowed (a : Alert) : Type 0 where
  pub origin : (length a.origin ≡ 3) × (is_origin a.origin ≡ true)
  pub event : (length a.event ≡ 3) × (is_event a.event ≡ true)
  pub some : 1 ≤ length a.places
  pub most : length a.places ≤ 31
  pub codes : every (λ p. ltb p 1000000) a.places ≡ true
  pub minutes : is_duration a.minutes ≡ true
  pub issue : is_issue a.day a.hour a.minute ≡ true
  pub sender : (length a.sender ≡ 8) × (is_sender a.sender ≡ true)

-- bytes of a fixed length that pass a test
sized : (n k : ℕ) (t : Bool) → eqb n k && t ≡ true → (n ≡ k) × (t ≡ true)
sized n k t e = (eqb-true n k (and_l (eqb n k) t e), and_r (eqb n k) t e)

pub allowed : (a : Alert) → WellFormed a → Allowed a
unfolding WellFormed header front is_duration
allowed a (more e5 (more e6 (more e7 (more e8 (more e9 (more e10 (more e11 none))))))) =
    let o8 : within 1 31 (length a.places) && every place.ok a.places ≡ true = not_not _ e8 in
    let w8 : within 1 31 (length a.places) ≡ true = and_l (within 1 31 (length a.places)) (every place.ok a.places) o8 in
    record {
      origin = sized (length a.origin) 3 (is_origin a.origin) (not_not _ e6);
      event = sized (length a.event) 3 (is_event a.event) (not_not _ e7);
      some = within_lo 1 31 (length a.places) w8;
      most = within_hi 1 31 (length a.places) w8;
      codes = and_r (within 1 31 (length a.places)) (every place.ok a.places) o8;
      minutes = not_not _ e9;
      issue = sym (issue_ok a.day a.hour a.minute) ∙ not_not _ e10;
      sender = sized (length a.sender) 8 (is_sender a.sender) (not_not _ e11);
    }

-- ---- minutes that a text can say

pub duration_bounds : (m : ℕ) → is_duration m ≡ true → (15 ≤ m) × (m ≤ 5970)
duration_bounds m h = written (m / 60) (m % 60) (sym (duration_ok m) ∙ h) (λ z a b. (omega arith, omega arith)) (λ a b k. (omega arith, omega arith))

-- ---- a text that was read

pub record IsRead (t : List ℕ) (f : Fields) : Type 0 where
  pub alert : Alert
  pub reads : read_says t ≡ granted alert
  pub fields : f ≡ fields_of alert
  pub same : t ≡ text_of alert
  pub fine : Allowed alert

pub is_read : {t : List ℕ} {f : Fields} → ReadPromise t (Ok f) → IsRead t f
is_read {t} {f} p = go (read_says t) refl p.says
  where
    go : (s : Said Alert) → read_says t ≡ s → said_read (Ok f) ≡ read_says t → IsRead t f
    go (granted a) z w =
        let o = read_form t a z in
        record { alert = a; reads = z; fields = p.fields ∙ ap fields_for z; same = o.1; fine = allowed a o.0 }
    go (refused n) z w = (let y = w ∙ z in clash cc)
    go (refused_at n i) z w = (let y = w ∙ z in clash cc)

pub is_refused : {t : List ℕ} {e : Refusal} → ReadPromise t (Err e) → read_says t ≡ says e
is_refused p = sym p.says

module _ {t : List ℕ} {f : Fields} (g : IsRead t f) where
  pub read_count : (1 ≤ f.count) × (f.count ≤ 31)
  read_count =
      let e : f.count ≡ length g.alert.places = ap (λ (x : Fields). x.count) g.fields in
      (omega (arith, g.fine.some), omega (arith, g.fine.most))

  -- the places that stand are the alert's; there are 31 entries
  pub read_places : take f.count f.places ≡ g.alert.places
  read_places =
      ap (λ (x : Fields). take x.count x.places) g.fields
      ∙ take_at g.alert.places (replicate (31 - length g.alert.places) 0) (length g.alert.places) refl

  pub read_entries : length f.places ≡ 31
  read_entries =
      let ps : List ℕ = g.alert.places in
      ap (λ (x : Fields). length x.places) g.fields
      ∙ length-append ps (replicate (31 - length ps) 0)
      ∙ omega (arith, length-replicate {A = ℕ} (31 - length ps) 0, g.fine.most)

  pub read_event : length f.event ≡ 3
  read_event = ap (λ (x : Fields). length x.event) g.fields ∙ g.fine.event.0

  pub read_duration : is_duration f.duration ≡ true
  read_duration = ap (λ (x : Fields). is_duration x.duration) g.fields ∙ g.fine.minutes

  pub read_issue : is_issue f.day f.hour f.minute ≡ true
  read_issue = ap (λ (x : Fields). is_issue x.day x.hour x.minute) g.fields ∙ g.fine.issue

  pub read_moment : Issued f.day f.hour f.minute
  read_moment = issued f.day f.hour f.minute read_issue
