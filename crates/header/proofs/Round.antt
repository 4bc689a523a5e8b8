-- Each field is lawful, so the table is: reading and writing are each other's inverse, and each field adds its bytes to a text's length.
use Prim.Native.Nat.{ℕ, ◌+◌, ◌*◌, ◌/◌, ◌%◌, ◌≤◌, ◌<◌}
use mathlib.Core.Path.{◌≡◌, refl, sym, ap, ◌∙◌}
use mathlib.Core.List.{List, [], ◌∷◌, append-nil}
use mathlib.Core.Bool.{Bool, true, false, ◌&&◌, ◌||◌}
use native.Mathlib.Omega.{arith}
use lib.ListN.{length}
use lib.Dec.{ltb, eqb}
use borrow.Author.Tests.{eqb-true, le-ltb}
use Rattle.laws.specs.Order.{granted, refused_at, choose}
use Rattle.laws.specs.Lists.{every, some}
use Rattle.laws.specs.Numbers.{within}
use Rattle.laws.specs.Text.{ascii}
use Rattle.laws.proofs.Clash.{clash}
use Rattle.laws.proofs.Tests.{impossible, and_l, and_r, within_lo, within_hi}
use Rattle.codec.specs.Kind.{bytes, digits, ◌⊗◌, nothing}
use Rattle.codec.specs.Codec.{Out, got, no, field, list_of}
use Rattle.codec.specs.Law.{Law, Lawful, Sized}
use Rattle.codec.proofs.KindLaws.{nothing_law, bytes_law, digits_law, pair_law, tag_law, kept_law, only_law}
use Rattle.codec.proofs.CodecLaws.{field_law, then_law, list_law}
use Rattle.codec.proofs.Sizes.{field_sized, then_sized, list_sized}
use Rattle.header.specs.Header.{is_origin, is_event, is_duration_of, is_moment, is_sender, dash, plus, start, origin, event, place, in_minutes, in_hours}
use Rattle.header.specs.Header.{duration, issue, sender, Front, front, header, Alert, alert_of, parts_of, text_of, WellFormed}
use Rattle.header.specs.Reading.{to_the_end, read_says}

-- ---- hours and minutes of a duration

or_cases : {P : Type 0} (a b : Bool) → a || b ≡ true → (a ≡ true → P) → (b ≡ true → P) → P
or_cases true b h f g = f refl
or_cases false b h f g = g h

-- one of some numbers that lie in a range lies there
among : (lo hi m : ℕ) (l : List ℕ) → every (within lo hi) l ≡ true → some (eqb m) l ≡ true → (lo ≤ m) × (m ≤ hi)
among lo hi m [] h e = impossible e
among lo hi m (x ∷ l) h e =
    let w : within lo hi x ≡ true = and_l (within lo hi x) (every (within lo hi) l) h in
    or_cases (eqb m x) (some (eqb m) l) e
    (λ q. (omega (arith, eqb-true m x q, within_lo lo hi x w), omega (arith, eqb-true m x q, within_hi lo hi x w)))
    (λ q. among lo hi m l (and_r (within lo hi x) (every (within lo hi) l) h) q)

-- hours 0 and 15 to 45 minutes, or hours 1 to 99 and at most 30 minutes
pub written : {P : Type 0} (h m : ℕ) → is_duration_of (h, m) ≡ true → (h ≡ 0 → 15 ≤ m → m ≤ 45 → P) → (1 ≤ h → h ≤ 99 → m ≤ 30 → P) → P
written h m e f g =
    or_cases (eqb h 0 && some (eqb m) (15 ∷ 30 ∷ 45 ∷ [])) (within 1 99 h && some (eqb m) (0 ∷ 30 ∷ [])) e
    (λ u.
    let r = among 15 45 m (15 ∷ 30 ∷ 45 ∷ []) refl (and_r (eqb h 0) (some (eqb m) (15 ∷ 30 ∷ 45 ∷ [])) u) in
    f (eqb-true h 0 (and_l (eqb h 0) (some (eqb m) (15 ∷ 30 ∷ 45 ∷ [])) u)) r.0 r.1)
    (λ u.
    let w : within 1 99 h ≡ true = and_l (within 1 99 h) (some (eqb m) (0 ∷ 30 ∷ [])) u in
    let r = among 0 30 m (0 ∷ 30 ∷ []) refl (and_r (within 1 99 h) (some (eqb m) (0 ∷ 30 ∷ [])) u) in
    g (within_lo 1 99 h w) (within_hi 1 99 h w) r.1)

pub hours : (h m : ℕ) → is_duration_of (h, m) ≡ true → h ≤ 99
hours h m e = written h m e (λ z a b. omega arith) (λ a b k. b)

pub minutes : (h m : ℕ) → is_duration_of (h, m) ≡ true → m < 60
minutes h m e = written h m e (λ z a b. omega arith) (λ a b k. omega arith)

-- ---- the fields

pub start_law : Law start
start_law = tag_law (ascii "ZCZC") nothing nothing_law

pub origin_law : Law origin
origin_law = only_law is_origin (bytes 3) (bytes_law 3)

pub event_law : Law event
event_law = only_law is_event (bytes 3) (bytes_law 3)

pub place_law : Law place
place_law = digits_law 6

pub duration_law : Law duration
duration_law =
    kept_law is_duration_of in_minutes in_hours (digits 2 ⊗ digits 2) (pair_law (digits 2) (digits 2) (digits_law 2) (digits_law 2))
    (λ d h.
    let lt : d.1 < 60 = minutes d.0 d.1 h in
    let e0 : (d.0 * 60 + d.1) / 60 ≡ d.0 = omega arith in
    let e1 : (d.0 * 60 + d.1) % 60 ≡ d.1 = omega arith in
    λ i. (e0 i, e1 i))
    (λ m h. omega arith)

pub issue_law : Law issue
issue_law =
    only_law is_moment (digits 3 ⊗ (digits 2 ⊗ digits 2))
    (pair_law (digits 3) (digits 2 ⊗ digits 2) (digits_law 3) (pair_law (digits 2) (digits 2) (digits_law 2) (digits_law 2)))

pub sender_law : Law sender
sender_law = only_law is_sender (bytes 8) (bytes_law 8)

-- ---- the table

pub places_law : Lawful (list_of 31 8 place dash plus)
places_law = list_law 8 place place_law dash plus refl 31

pub front_law : Lawful front
unfolding front
front_law =
    then_law (field 5 start dash) _ (field_law 5 start dash start_law)
    (then_law (field 6 origin dash) _ (field_law 6 origin dash origin_law)
    (then_law (field 7 event dash) _ (field_law 7 event dash event_law)
    (then_law (list_of 31 8 place dash plus) _ places_law
    (then_law (field 9 duration dash) _ (field_law 9 duration dash duration_law)
    (field_law 10 issue dash issue_law)))))

pub header_law : Lawful header
unfolding header
header_law = then_law front _ front_law (field_law 11 sender dash sender_law)

pub front_sized : Sized front (λ h. 5 + (4 + (4 + (7 * length h.1.1.1.0 + (5 + 8))))) 33 243
unfolding front
front_sized =
    then_sized (field 5 start dash) _ _ _ 5 5 28 238 (field_sized 5 start dash start_law)
    (then_sized (field 6 origin dash) _ _ _ 4 4 24 234 (field_sized 6 origin dash origin_law)
    (then_sized (field 7 event dash) _ _ _ 4 4 20 230 (field_sized 7 event dash event_law)
    (then_sized (list_of 31 8 place dash plus) _ _ _ 7 217 13 13 (list_sized 31 8 place dash plus place_law refl)
    (then_sized (field 9 duration dash) _ _ _ 5 5 8 8 (field_sized 9 duration dash duration_law)
    (field_sized 10 issue dash issue_law)))))

header_sized : Sized header (λ h. 5 + (4 + (4 + (7 * length h.0.1.1.1.0 + (5 + 8)))) + 9) 42 252
unfolding header
header_sized = then_sized front _ _ _ 33 243 9 9 front_sized (field_sized 11 sender dash sender_law)

-- a text with n places has 35 + 7 × n bytes, and n is 1 to 31
pub text_length : (a : Alert) → WellFormed a → (length (text_of a) ≡ 35 + 7 * length a.places) × (1 ≤ length a.places) × (length a.places ≤ 31)
unfolding WellFormed text_of
text_length a f =
    let s = header_sized.sized (parts_of a) f in
    (omega (arith, s.0), omega (arith, s.1), omega (arith, s.2))

-- ---- reads-exactly

same_parts : (h : Front × List ℕ) → parts_of (alert_of h) ≡ h
same_parts h = refl

pub read_to_the_end : (t : List ℕ) (o : Out (Front × List ℕ)) (a : Alert) → header.get t 0 ≡ o → to_the_end o ≡ granted a
    → header.get t 0 ≡ got (parts_of a) [] (length t)
read_to_the_end t (no n i) a q e = clash cc
read_to_the_end t (got h (x ∷ l) i) a q e = clash cc
read_to_the_end t (got h [] i) a q e =
    let ea : alert_of h ≡ a = cc in
    let r = header_law.reads t 0 h [] i q in
    let ei : i ≡ length t = omega (arith, r.2, ap length (r.1 ∙ append-nil (header.text h))) in
    q ∙ (λ k. got (parts_of (ea k)) [] (ei k))

-- what is read has the form: its fields are allowed, it is their text, and nothing is left over
pub read_form : (t : List ℕ) (a : Alert) → read_says t ≡ granted a → WellFormed a × (t ≡ text_of a) × (header.get t 0 ≡ got (parts_of a) [] (length t))
unfolding read_says WellFormed text_of
read_form t a e = go (ltb 252 (length t)) e
  where
    go : (b : Bool) → choose b (refused_at 4 252) (to_the_end (header.get t 0)) ≡ granted a
        → WellFormed a × (t ≡ text_of a) × (header.get t 0 ≡ got (parts_of a) [] (length t))
    go true e = clash cc
    go false e =
        let g : header.get t 0 ≡ got (parts_of a) [] (length t) = read_to_the_end t (header.get t 0) a refl e in
        let r = header_law.reads t 0 (parts_of a) [] (length t) g in
        (r.0, r.1 ∙ append-nil (header.text (parts_of a)), g)

-- and what has the form is read
pub form_read : (a : Alert) → WellFormed a → read_says (text_of a) ≡ granted a
unfolding read_says WellFormed text_of
form_read a f =
    let l = text_length a f in
    let b : ltb 252 (length (text_of a)) ≡ false = le-ltb 252 (length (text_of a)) (omega (arith, l.0, l.2)) in
    let g : header.get (text_of a) 0 ≡ got (parts_of a) [] (0 + length (text_of a)) =
    ap (λ (s : List ℕ). header.get s 0) (sym (append-nil (text_of a))) ∙ header_law.writes (parts_of a) [] 0 f in
    simp (b, g)

pub reads_exactly : (t : List ℕ) (a : Alert)
    → (read_says t ≡ granted a → WellFormed a × (t ≡ text_of a)) × (WellFormed a × (t ≡ text_of a) → read_says t ≡ granted a)
reads_exactly t a = (λ e. let r = read_form t a e in (r.0, r.1), λ f. ap read_says f.1 ∙ form_read a f.0)
