-- What was written reads back and what was read writes back, by the promises of the two calls; the writer's number is the first row's that holds.
use Rattle.std.specs.Prelude.{Result}
use Prim.Native.Nat.{ℕ, ◌+◌, ◌-◌, ◌≤◌, ◌<◌}
use mathlib.Core.Path.{◌≡◌, refl, sym, ap, ◌∙◌}
use mathlib.Core.Logic.{◌⊎◌}
use mathlib.Core.List.{List, [], ◌∷◌}
use mathlib.Core.Bool.{Bool, false}
use native.Mathlib.Omega.{arith}
use lib.ListN.{length, take, drop, replicate}
use lib.Seq.{take_at}
use lib.Dec.{ltb}
use borrow.Author.Tests.{le-ltb, lt-ltb, ltb-false}
use Rattle.laws.specs.Order.{Said, granted, refused, ◌when◌, Quiet, none, more, First}
use Rattle.laws.specs.Space.{pasted, leaves}
use Rattle.laws.proofs.Order.{exactly, said_last, given, quiet_groups, granted_quiet}
use Rattle.laws.proofs.Quiet.{quiet_left, quiet_right}
use Rattle.refusals.specs.Refusals.{said}
use Rattle.refusals.specs.declared.Refusal.{Refusal}
use Rattle.header.specs.Header.{Alert, front, header, parts_of, text_of, WellFormed}
use Rattle.header.specs.Reading.{read_says}
use Rattle.header.specs.Writing.{write_rows, write_says}
use Rattle.header.specs.Answers.{alert_in, fields_of, fields_for, fields_read, said_read}
use Rattle.header.specs.Promise.{ReadPromise, WritePromise}
use Rattle.header.specs.declared.Fields.{Fields}
use Rattle.header.proofs.Round.{read_form, form_read}
use Rattle.header.proofs.Says.{kept, filled}

-- ---- the writer's numbers: what it says is said by the first row that holds, or no row holds and the text is written

pub write_exactly : (a : Alert) (room : ℕ)
    → First (write_says a room) (write_rows a room) ⊎ (Quiet (write_rows a room) × (write_says a room ≡ granted (length (text_of a))))
unfolding write_says
write_exactly a room = exactly (write_rows a room) (granted (length (text_of a)))

pub form_write : (a : Alert) (room : ℕ) → WellFormed a → length (text_of a) ≤ room → write_says a room ≡ granted (length (text_of a))
unfolding write_says WellFormed
form_write a room w h = said_last (write_rows a room) (granted (length (text_of a))) (quiet_groups w (more (le-ltb room (length (text_of a)) h) none))

pub form_no_room : (a : Alert) (room : ℕ) → WellFormed a → room < length (text_of a) → write_says a room ≡ refused 13
unfolding write_says WellFormed
form_no_room a room w h =
    let n : ℕ = length (text_of a) in
    given (header.faults (parts_of a)) (refused 13 when ltb room n) [] (granted n) w (lt-ltb room n h)

-- ---- granted only where all is allowed and there is room

pub record Grants (a : Alert) (lent n : ℕ) : Type 0 where
  pub fine : WellFormed a
  pub long : length (text_of a) ≡ n
  pub room : n ≤ lent

pub grants : (a : Alert) (room n : ℕ) → write_says a room ≡ granted n → Grants a room n
unfolding write_says WellFormed header front
grants a room n e =
    let q : Quiet (write_rows a room) =
    granted_quiet (write_rows a room) (length (text_of a)) n (refl, (refl, (refl, (refl, (refl, (refl, (refl, (refl, tt)))))))) e in
    let faults = header.faults (parts_of a) in
    let space = refused 13 when ltb room (length (text_of a)) ∷ [] in
    let l : granted (length (text_of a)) ≡ granted n = sym (said_last (write_rows a room) (granted (length (text_of a))) q) ∙ e in
    let m : length (text_of a) ≡ n = cc in
    record {
      fine = quiet_left faults space q;
      long = m;
      room = omega (arith, ltb-false room (length (text_of a)) (quiet_head (quiet_right faults space q)));
    }
  where
    quiet_head : {x : Said ℕ} {b : Bool} → Quiet (x when b ∷ []) → b ≡ false
    quiet_head (more h none) = h

-- ---- fields that were written read back the same

front_of : (d t : List ℕ) (n : ℕ) → length t ≡ n → take n (pasted d 0 t) ≡ t
unfolding pasted
front_of d t n e = take_at t (drop (0 + length t) d) n e

module _ {f : Fields} {d d' : List ℕ} {w : Result ℕ Refusal} {n : ℕ} {r : Result Fields Refusal}
    (p : WritePromise f d d' w) (s : said w ≡ granted n) (q : ReadPromise (take n d') r) where
  written : (WellFormed (alert_in f)) × (take n d' ≡ text_of (alert_in f))
  written =
      let a : Alert = alert_in f in
      let e : write_says a (length d) ≡ granted n = sym p.says ∙ s in
      let g = grants a (length d) n e in
      let v : d' ≡ pasted d 0 (text_of a) = p.space ∙ ap (λ (x : Said ℕ). leaves (λ k out. pasted out 0 (text_of a)) x d) e in
      (g.fine, ap (take n) v ∙ front_of d (text_of a) n g.long)

  reads_it : read_says (take n d') ≡ granted (alert_in f)
  reads_it = ap read_says written.1 ∙ form_read (alert_in f) written.0

  -- what is said is the same; entries of the list past the count, which no text carries, come back as zeros
  pub write_read : (said_read r ≡ granted (alert_in f)) × (fields_read r ≡ fields_of (alert_in f))
  write_read = (q.says ∙ reads_it, q.fields ∙ ap fields_for reads_it)

  -- fields with zeros there come back whole
  pub write_read_same : f.count ≤ 31 → drop f.count f.places ≡ replicate (31 - f.count) 0 → length f.places ≡ 31 → fields_read r ≡ f
  write_read_same low rest len = write_read.1 ∙ sym (filled f low rest len)

-- ---- a text that was read writes back the same, where there is room

module _ {t : List ℕ} {r : Result Fields Refusal} {a : Alert} {d d' : List ℕ} {w : Result ℕ Refusal}
    (p : ReadPromise t r) (s : said_read r ≡ granted a) (q : WritePromise (fields_read r) d d' w) (h : length t ≤ length d) where
  pub read_write : (said w ≡ granted (length t)) × (d' ≡ pasted d 0 t)
  read_write =
      let e : read_says t ≡ granted a = sym p.says ∙ s in
      let f = read_form t a e in
      let k : alert_in (fields_read r) ≡ a = ap alert_in (p.fields ∙ ap fields_for e) ∙ kept a in
      let l : length (text_of a) ≡ length t = ap length (sym f.1) in
      let v : write_says (alert_in (fields_read r)) (length d) ≡ granted (length t) =
      ap (λ (x : Alert). write_says x (length d)) k ∙ form_write a (length d) f.0 (omega arith) ∙ ap granted l in (
        q.says ∙ v,
        q.space ∙ ap (λ (x : Said ℕ). leaves (λ n out. pasted out 0 (text_of (alert_in (fields_read r)))) x d) v
            ∙ ap (λ (x : Alert). pasted d 0 (text_of x)) k ∙ ap (pasted d 0) (sym f.1),
      )
