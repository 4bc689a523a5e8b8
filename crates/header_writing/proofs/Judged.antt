-- What the writer says and leaves, by the tests that code makes.
use Prim.Native.Nat.{ℕ, ◌+◌, ◌*◌, ◌/◌, ◌%◌, ◌≤◌, ◌<◌}
use mathlib.Core.Path.{◌≡◌, refl, sym, ap, ◌∙◌}
use mathlib.Core.List.{List, [], ◌∷◌, ◌++◌, append_assoc}
use mathlib.Core.Bool.{Bool, true, false, not, and-false}
use native.Mathlib.Omega.{arith}
use lib.ListN.{length, take, length-append}
use lib.Seq.{length-take-le}
use lib.Dec.{ltb}
use borrow.Author.Tests.{lt-ltb, le-ltb, lt-leb, le-leb}
use Rattle.std.specs.Prelude.{Ok, Err}
use Rattle.laws.specs.Order.{Said, granted, refused, ◌when◌, in_order, none, more}
use Rattle.laws.specs.Lists.{every}
use Rattle.laws.specs.Space.{pasted, leaves}
use Rattle.laws.proofs.Decimal.{length_dig}
use Rattle.refusals.specs.Refusals.{says}
use Rattle.refusals.specs.declared.Refusal.{Refusal}
use Rattle.refusals.proofs.Said.{leaves_refused}
use Rattle.codec.specs.Codec.{field, text_list}
use Rattle.header.specs.Header.{dash, plus, start, is_origin, is_event, is_sender, origin, event, place, duration, issue, sender, is_duration, front, header, text_of, WellFormed}
use Rattle.header.specs.Writing.{write_says}
use Rattle.header.specs.Answers.{counted, alert_in}
use Rattle.header.specs.Promise.{WritePromise, IsOriginPromise, IsEventPromise, IsSenderPromise, IsDurationPromise, IsIssuePromise}
use Rattle.header_writing.specs.Steps.{codes_ok, places_text, duration_text, issue_text, opening_text, closing_text, all_text}
use Rattle.header.specs.declared.Fields.{Fields}
use Rattle.header.proofs.Allowed.{bytes_ok, issue_ok}
use Rattle.header.proofs.Round.{text_length}
use Rattle.header.proofs.Says.{counted_length, counted_take}
use Rattle.header.proofs.Exact.{grants}

-- ---- the test of the places

pub codes_none : (codes : List ℕ) (n : ℕ) → n < 1 → codes_ok (counted codes n) ≡ false
codes_none codes n h = simp (lt-leb 1 (length (counted codes n)) (omega (arith, counted_length codes n)))

pub codes_many : (codes : List ℕ) (n : ℕ) → 31 < n → codes_ok (counted codes n) ≡ false
codes_many codes n h = simp (lt-leb (length (counted codes n)) 31 (omega (arith, counted_length codes n)), and-false)

pub codes_some : (codes : List ℕ) (n : ℕ) → 1 ≤ n → n ≤ 31 → length codes ≡ 31 → codes_ok (counted codes n) ≡ every place.ok (take n codes)
codes_some codes n h k l =
    ap codes_ok (counted_take codes n (omega arith))
    ∙ simp (length-take-le n codes (omega arith), le-leb 1 n h, le-leb n 31 k)

-- ---- each field that was asked

module _ (f : Fields) {r b : Bool} where
  pub ok_origin : 3 ≡ length f.origin → IsOriginPromise f.origin r → r ≡ b → origin.ok f.origin ≡ b
  ok_origin l p e = bytes_ok is_origin 3 f.origin l ∙ sym p.says ∙ e

  pub ok_event : 3 ≡ length f.event → IsEventPromise f.event r → r ≡ b → event.ok f.event ≡ b
  ok_event l p e = bytes_ok is_event 3 f.event l ∙ sym p.says ∙ e

  pub ok_places : r ≡ codes_ok (counted f.places f.count) → r ≡ b → codes_ok (counted f.places f.count) ≡ b
  ok_places p e = sym p ∙ e

  pub ok_duration : IsDurationPromise f.duration r → r ≡ b → is_duration f.duration ≡ b
  ok_duration p e = sym p.says ∙ e

  pub ok_issue : IsIssuePromise f.day f.hour f.minute r → r ≡ b → issue.ok (f.day, (f.hour, f.minute)) ≡ b
  ok_issue p e = issue_ok f.day f.hour f.minute ∙ sym p.says ∙ e

  pub ok_sender : 8 ≡ length f.sender → IsSenderPromise f.sender r → r ≡ b → sender.ok f.sender ≡ b
  ok_sender l p e = bytes_ok is_sender 8 f.sender l ∙ sym p.says ∙ e

-- ---- the rows, by the seven tests

module _ (f : Fields) (b6 b7 b8 b9 b10 b11 : Bool)
    (e6 : origin.ok f.origin ≡ b6) (e7 : event.ok f.event ≡ b7) (e8 : codes_ok (counted f.places f.count) ≡ b8)
    (e9 : is_duration f.duration ≡ b9) (e10 : issue.ok (f.day, (f.hour, f.minute)) ≡ b10) (e11 : sender.ok f.sender ≡ b11) where
  pub rows_by : (room : ℕ) → write_says (alert_in f) room ≡ in_order
      (refused 5 when false
      ∷ refused 6 when not b6
      ∷ refused 7 when not b7
      ∷ refused 8 when not b8
      ∷ refused 9 when not b9
      ∷ refused 10 when not b10
      ∷ refused 11 when not b11
      ∷ refused 13 when ltb room (length (text_of (alert_in f)))
      ∷ []) (granted (length (text_of (alert_in f))))
  unfolding write_says header front is_duration
  rows_by room = λ q. in_order
      (refused 5 when false
      ∷ refused 6 when not (e6 q)
      ∷ refused 7 when not (e7 q)
      ∷ refused 8 when not (e8 q)
      ∷ refused 9 when not (e9 q)
      ∷ refused 10 when not (e10 q)
      ∷ refused 11 when not (e11 q)
      ∷ refused 13 when ltb room (length (text_of (alert_in f)))
      ∷ []) (granted (length (text_of (alert_in f))))

pub record Fine (f : Fields) : Type 0 where
  pub six : origin.ok f.origin ≡ true
  pub seven : event.ok f.event ≡ true
  pub eight : codes_ok (counted f.places f.count) ≡ true
  pub nine : is_duration f.duration ≡ true
  pub ten : issue.ok (f.day, (f.hour, f.minute)) ≡ true
  pub eleven : sender.ok f.sender ≡ true

module _ (f : Fields) (w : Fine f) where
  pub well_formed : WellFormed (alert_in f)
  unfolding WellFormed header front is_duration
  well_formed =
      more refl
      (more (ap not w.six)
      (more (ap not w.seven) (more (ap not w.eight) (more (ap not w.nine) (more (ap not w.ten) (more (ap not w.eleven) none))))))

  pub size : (length (text_of (alert_in f)) ≡ 35 + 7 * f.count) × (1 ≤ f.count) × (f.count ≤ 31)
  size =
      let t = text_length (alert_in f) well_formed in
      let l : length (counted f.places f.count) ≡ f.count = counted_length f.places f.count in
      (omega (arith, t.0), omega (arith, t.1), omega (arith, t.2))

  pub wrote_small : (room : ℕ) → room < 35 + 7 * f.count → refused 13 ≡ write_says (alert_in f) room
  wrote_small room h =
      sym (rows_by f true true true true true true w.six w.seven w.eight w.nine w.ten w.eleven room
      ∙ simp (lt-ltb room (length (text_of (alert_in f))) (omega (arith, size.0))))

  pub wrote_yes : (room : ℕ) → 35 + 7 * f.count ≤ room → granted (35 + 7 * f.count) ≡ write_says (alert_in f) room
  wrote_yes room h =
      sym (rows_by f true true true true true true w.six w.seven w.eight w.nine w.ten w.eleven room
      ∙ (simp (le-ltb room (length (text_of (alert_in f))) (omega (arith, size.0))) (ap granted size.0)))

-- ---- granted only where so many places stand and there is room

pub granted_size : (f : Fields) (room n : ℕ) → granted n ≡ write_says (alert_in f) room → (f.count ≤ 31) × (35 + 7 * f.count ≤ room)
granted_size f room n e =
    let g = grants (alert_in f) room n (sym e) in
    let t = text_length (alert_in f) g.fine in
    let l : length (counted f.places f.count) ≡ f.count = counted_length f.places f.count in
    (omega (arith, t.2), omega (arith, t.0, g.long, g.room))

-- ---- what is left

regroup : (a b c p x y z : List ℕ) → (a ++ (b ++ c)) ++ (p ++ (x ++ (y ++ z))) ≡ (a ++ (b ++ (c ++ (p ++ (x ++ y))))) ++ z
regroup a b c p x y z = simp append_assoc

pub all_text_is : (f : Fields) → f.count ≤ length f.places → all_text f ≡ text_of (alert_in f)
unfolding text_of header front all_text opening_text closing_text places_text duration_text issue_text
all_text_is f h =
    let a = (field 5 start dash).text tt in
    let b = (field 6 origin dash).text f.origin in
    let c = (field 7 event dash).text f.event in
    let x = (field 9 duration dash).text f.duration in
    let y = (field 10 issue dash).text (f.day, (f.hour, f.minute)) in
    let z = (field 11 sender dash).text f.sender in
    regroup a b c (text_list place dash plus (take f.count f.places)) x y z
    ∙ ap (λ (ps : List ℕ). (a ++ (b ++ (c ++ (text_list place dash plus ps ++ (x ++ y))))) ++ z) (sym (counted_take f.places f.count h))

pub left_no : (f : Fields) (d : List ℕ) (e : Refusal) → says e ≡ write_says (alert_in f) (length d) → WritePromise f d d (Err e)
left_no f d e h =
    let put : ℕ → List ℕ → List ℕ = λ n out. pasted out 0 (text_of (alert_in f)) in
    record { says = h; space = sym (leaves_refused put e d) ∙ ap (λ (s : Said ℕ). leaves put s d) h }

pub left_yes : (f : Fields) (d d' : List ℕ) (n : ℕ) → f.count ≤ length f.places → granted n ≡ write_says (alert_in f) (length d)
    → d' ≡ pasted d 0 (all_text f) → WritePromise f d d' (Ok n)
left_yes f d d' n h e p = record {
  says = e;
  space = p ∙ ap (pasted d 0) (all_text_is f h) ∙ ap (λ (s : Said ℕ). leaves (λ n out. pasted out 0 (text_of (alert_in f))) s d) e;
}

-- ---- lengths

pub duration_length : (m : ℕ) → length (duration_text m) ≡ 5
unfolding duration_text
duration_length m = simp length-append (omega (arith, length_dig 2 (m / 60), length_dig 2 (m % 60)))

pub issue_length : (d h m : ℕ) → length (issue_text d h m) ≡ 8
unfolding issue_text
issue_length d h m = simp length-append (omega (arith, length_dig 3 d, length_dig 2 h, length_dig 2 m))

pub opening_length : (f : Fields) → 3 ≡ length f.origin → 3 ≡ length f.event → length (opening_text f) ≡ 13
unfolding opening_text
opening_length f o e = simp length-append (omega arith)
