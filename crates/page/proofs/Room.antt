-- A named size holds the page of any input: a number printed has at most four digits, and a report at most 4,096 hits.
use mathlib.Core.Path.{◌≡◌, refl, ap, ◌∙◌}
use mathlib.Core.Bool.{Bool, true, false}
use mathlib.Core.List.{List, [], ◌∷◌, ◌++◌}
use Prim.Native.Nat.{ℕ, ◌*◌, ◌≤◌}
use native.Mathlib.Omega.{arith}
use lib.Dec.{eqb, ltb, leb}
use borrow.Author.Tests.{leb-true, le-leb}
use lib.ListN.{length}
use Rattle.laws.specs.Order.{Said, granted, refused, refused_at, passes, next, choose}
use Rattle.laws.specs.Space.{pasted}
use Rattle.laws.proofs.Clash.{clash}
use Rattle.laws.proofs.Order.{passes_rows, passes_next}
use Rattle.codec.specs.Codec.{Out, got, no}
use Rattle.header.specs.Header.{Alert, Front, header}
use Rattle.header.specs.Reading.{read_says, to_the_end, ReadStops, long, in_field, left}
use Rattle.header.specs.Reading.{TableStops, at_start, at_origin, at_event, at_place, at_duration, at_issue, at_sender}
use Rattle.header.proofs.Stopping.{read_stops, table_stops}
use Rattle.header.proofs.Round.{read_form}
use Rattle.header.proofs.Callers.{allowed}
use Rattle.clock.specs.declared.Clock.{Clock}
use Rattle.book_rules.specs.Form.{form}
use Rattle.book_rules.specs.Rules.{empty}
use Rattle.book_rules.specs.Edits.{book_row, client_row, add_rows, add_says}
use Rattle.book_rules.specs.Afresh.{subs}
use Rattle.report.specs.Hits.{hits_of, pairs}
use Rattle.report.specs.Report.{Full, summary_of, times_rows, room_rows, alert_says, list_says, report_says}
use Rattle.report.specs.declared.Summary.{Summary}
use Rattle.report.proofs.Spans.{length_pairs}
use Rattle.report.proofs.Given.{given}
use Rattle.input_lines.specs.Lines.{pieces, LineForm, is_line}
use Rattle.input_lines.specs.Forms.{now_line, client_line, header_line, sub_line}
use Rattle.input_lines.specs.LineByLine.{one_line, each_line}
use Rattle.page_printing.specs.Page.{page_room}
use Rattle.std.specs.Prelude.{Result, Ok, Err}
use Rattle.refusals.specs.Refusals.{said}
use Rattle.refusals.specs.declared.Refusal.{Refusal}
use Rattle.refusals.proofs.Said.{never_granted}
use Rattle.page_printing.proofs.Pages.{page_fits, refusal_fits}
use Rattle.page_printing.proofs.Writing.{print_fits}
use Rattle.page.specs.Input.{clock_of, adds_line, hit_room, Shown, report_shows, lines_say, input_says}
use Rattle.page.specs.Page.{printed, page_of}
use Rattle.page.specs.Promise.{PagePromise}
use Rattle.page.proofs.NoChoice.{as_print}

-- a granted value has the property; a number has at most four digits
abbrev Kept : {A : Type 0} → (A → Type 0) → Said A → Type 0
Kept P (granted a) = P a
Kept P (refused n) = n ≤ 9999
Kept P (refused_at n i) = n ≤ 9999

abbrev Any : {A : Type 0} → A → Type 0
Any a = Unit {0}

kept_next : {A B : Type 0} (P : A → Type 0) (Q : B → Type 0) (o : Said A) (f : A → Said B)
    → Kept P o → ((a : A) → o ≡ granted a → Kept Q (f a)) → Kept Q (next o f)
kept_next P Q (granted a) f k h = h a refl
kept_next P Q (refused n) f k h = k
kept_next P Q (refused_at n i) f k h = k

-- ---- the numbers of each call

table_number : (t : List ℕ) (n i : ℕ) → TableStops t n i → n ≤ 12
table_number t n i (at_start a) = omega arith
table_number t n i (at_origin a b) = omega arith
table_number t n i (at_event a b c) = omega arith
table_number t n i (at_place a b) = omega arith
table_number t n i (at_duration a b) = omega arith
table_number t n i (at_issue a b c) = omega arith
table_number t n i (at_sender a b c d) = omega arith

read_number : (t : List ℕ) (n i : ℕ) → ReadStops t n i → n ≤ 12
read_number t n i (long l) = omega arith
read_number t n i (in_field l e) = table_number t n i (table_stops t n i e)
read_number t n i (left l e) = omega arith

-- a reading always names an index
read_index : (t : List ℕ) (n : ℕ) → read_says t ≡ refused n → ⊥
unfolding read_says
read_index t n e = by (ltb 252 (length t)) (header.get t 0) e
  where
    by : (b : Bool) (o : Out (Front × List ℕ)) → choose b (refused_at 4 252) (to_the_end o) ≡ refused n → ⊥
    by true o e = clash cc
    by false (got h [] i) e = clash cc
    by false (got h (x ∷ r) i) e = clash cc
    by false (no m i) e = clash cc

read_kept : (t : List ℕ) → Kept Any (read_says t)
read_kept t = go (read_says t) refl
  where
    go : (s : Said Alert) → read_says t ≡ s → Kept Any s
    go (granted a) e = tt
    go (refused n) e = absurd (read_index t n e)
    go (refused_at n i) e = omega (arith, read_number t n i (read_stops t n i e))

-- a number of at most four digits
abbrev small : ℕ → Bool
small n = leb n 9999

kept_any : {A : Type 0} (s : Said A) → passes small small s ≡ true → Kept Any s
kept_any (granted a) h = tt
kept_any (refused n) h = leb-true n 9999 h
kept_any (refused_at n i) h = leb-true n 9999 h

read_small : (t : List ℕ) → passes small small (read_says t) ≡ true
read_small t = go (read_says t) (read_kept t)
  where
    go : (s : Said Alert) → Kept Any s → passes small small s ≡ true
    go (granted a) k = refl
    go (refused n) k = le-leb n 9999 k
    go (refused_at n i) k = le-leb n 9999 k

report_kept : (book : List ℕ) (client : ℕ) (text : List ℕ) (at : Clock) (room : ℕ) → Kept Any (report_says book client text at room)
unfolding report_says list_says alert_says
report_kept book client text at room =
    kept_any (report_says book client text at room)
    (passes_rows small small (book_row form book ++ client_row client) _ refl
    (passes_next small small (read_says text) (λ a. alert_says at room a (hits_of client a (subs form book))) (read_small text)
    (λ a. passes_rows small small (times_rows at a ++ room_rows room (hits_of client a (subs form book))) _ refl refl)))

adds_kept : (b : List ℕ) (p c v : ℕ) → Kept Any (adds_line b (p, (c, v)))
unfolding add_says
adds_kept b p c v =
    kept_any (adds_line b (p, (c, v)))
    (passes_next small small (add_says form b p c v) _ (passes_rows small small (add_rows form b p c v) (granted tt) refl refl) (λ u. refl))

kept_line : {A : Type 0} (P : A → Type 0) (b : Bool) (rest : Said A) → Kept P rest → Kept P (choose b rest (refused 23))
kept_line P true rest k = k
kept_line P false rest k = omega arith

each_kept : (b : List ℕ) (ls : List (List ℕ)) → Kept Any (each_line sub_line adds_line b ls)
unfolding each_line
each_kept b [] = tt
each_kept b (l ∷ []) = kept_line Any (eqb (length l) 0) (granted b) tt
each_kept b (l ∷ (m ∷ ls)) =
    kept_line Any (is_line sub_line l) _
    (kept_next Any Any (adds_line b (sub_line.value l)) (λ s. each_line sub_line adds_line s (m ∷ ls))
    (adds_kept b (sub_line.value l).0 (sub_line.value l).1.0 (sub_line.value l).1.1) (λ s e. each_kept s (m ∷ ls)))

one_kept : {A B : Type 0} (P : B → Type 0) (f : LineForm A) (ls : List (List ℕ)) (rest : A → List (List ℕ) → Said B)
    → ((v : A) (ks : List (List ℕ)) → Kept P (rest v ks)) → Kept P (one_line f ls rest)
unfolding one_line
one_kept P f [] rest k = omega arith
one_kept P f (l ∷ []) rest k = omega arith
one_kept P f (l ∷ (m ∷ ls)) rest k = kept_line P (is_line f l) _ (k (f.value l) (m ∷ ls))

-- ---- what is shown fits

abbrev Fits : Shown → Type 0
Fits (client, g) = (length g.summary.event ≡ 3) × (length g.hits ≤ 4096)

event_of : (at : Clock) (a : Alert) (g : Full) → g.summary ≡ summary_of at a g.hits → length g.summary.event ≡ length a.event
unfolding summary_of
event_of at a g e = ap (λ (s : Summary). length s.event) e

shown_fits : (book : List ℕ) (client : ℕ) (text : List ℕ) (at : Clock) → Kept Fits (report_shows book client text at)
unfolding report_shows
shown_fits book client text at =
    kept_next Any Fits (report_says book client text at hit_room) (λ g. granted (client, g)) (report_kept book client text at hit_room)
    (λ g e.
    let k = given book client text at hit_room g e in
    let f : 2 * length g.hits ≤ 8192 = k.fits in
    (event_of at k.alert g k.summary ∙ (allowed k.alert (read_form text k.alert k.reads).0).event.0, omega arith))

input_fits : (t : List ℕ) → Kept Fits (input_says t)
unfolding input_says lines_say
input_fits t =
    one_kept Fits now_line (pieces t) _ (λ v ks.
    one_kept Fits client_line ks _ (λ c js.
    one_kept Fits header_line js _ (λ h is.
    kept_next Any Fits (each_line sub_line adds_line empty is) _ (each_kept empty is) (λ b e. shown_fits b c h (clock_of v)))))

-- the page of any input has at most so many bytes
pub page_in_room : (t : List ℕ) → length (page_of t) ≤ page_room
unfolding page_of
page_in_room t = go (input_says t) (input_fits t)
  where
    go : (s : Said Shown) → Kept Fits s → length (printed s) ≤ page_room
    go (granted (client, g)) k =
        let s = g.summary in
        page_fits client s.times s.event s.listed s.class (pairs g.hits) (omega (arith, length_pairs g.hits, k.1)) k.0
    go (refused n) k = refusal_fits n k
    go (refused_at n i) k = refusal_fits n k

-- where that many are lent, the page is printed
pub page_printed : {input out left : List ℕ} {r : Result ℕ Refusal} → PagePromise input out r left → page_room ≤ length out
    → (said r ≡ granted (length (page_of input))) × (left ≡ pasted out 0 (page_of input))
page_printed {input} {out} p h = print_fits (as_print p) (omega (arith, page_in_room input))

-- so it is never refused
pub page_ok : {input out left : List ℕ} {r : Result ℕ Refusal} → PagePromise input out r left → page_room ≤ length out → r ≡ Ok (length (page_of input))
page_ok {input} {r = r} p h = go r (page_printed p h).0
  where
    go : (r : Result ℕ Refusal) → said r ≡ granted (length (page_of input)) → r ≡ Ok (length (page_of input))
    go (Ok n) e = let z : n ≡ length (page_of input) = cc in ap Ok z
    go (Err x) e = never_granted x e
