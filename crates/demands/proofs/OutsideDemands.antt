-- Demands 2 and 3 of the calls from outside: a low half of 0 is a granted call, and what the call below says is read off the words.
use Prim.Native.Nat.{ℕ, ◌+◌, ◌-◌, ◌*◌, ◌≤◌, ◌<◌}
use mathlib.Core.Path.{◌≡◌, refl, sym, ap, ◌∙◌}
use mathlib.Core.Bool.{Bool, true, false}
use mathlib.Core.List.{List, ◌++◌, append_assoc}
use native.Mathlib.Omega.{arith}
use lib.ListN.{length, take, drop, replicate, get_or, length-append, length-replicate}
use lib.Seq.{take_at, drop_at, length-take-le}
use lib.Dec.{ltb}
use borrow.Author.Tests.{le-ltb, ltb-false}
use Rattle.laws.specs.Order.{Said, granted, refused, refused_at, choose, next, is_refusal}
use Rattle.laws.specs.Lists.{tally}
use Rattle.laws.specs.Space.{pasted, leaves}
use Rattle.laws.proofs.Pasted.{pasted_length}
use Rattle.laws.proofs.Tests.{impossible}
use Rattle.laws.proofs.Tally.{tally_le}
use Rattle.burst.specs.Sent.{OfBytes, Sent}
use Rattle.burst.specs.Strip.{lead}
use Rattle.burst.specs.Vote.{vote_says}
use Rattle.burst.proofs.Stripped.{lead_most}
use Rattle.burst.proofs.Consequence.{consequence}
use Rattle.header.specs.Header.{Alert, text_of, WellFormed}
use Rattle.header.specs.Reading.{read_says}
use Rattle.header.specs.Writing.{write_says}
use Rattle.header.specs.Answers.{alert_in, fields_of}
use Rattle.header.specs.declared.Fields.{Fields}
use Rattle.header.proofs.Says.{kept, counted_length}
use Rattle.header.proofs.Callers.{Allowed, allowed}
use Rattle.header.proofs.Round.{read_form, form_read, text_length}
use Rattle.header.proofs.Exact.{grants, form_write}
use Rattle.clock.specs.Clock.{has_day, is_clock}
use Rattle.clock.specs.Lifetime.{year_of}
use Rattle.clock.specs.declared.Clock.{Clock}
use Rattle.book_rules.specs.Form.{form, bad_client}
use Rattle.book_rules.specs.Rules.{empty}
use Rattle.book_rules.proofs.Form.{form_laws}
use Rattle.book_history.proofs.Afresh.{afresh_valid}
use Rattle.report.specs.Hits.{is_of}
use Rattle.report.specs.Report.{Full, summary_of, report_says}
use Rattle.report.specs.Promise.{writes_hits}
use Rattle.report.specs.Exact.{wanted}
use Rattle.report.specs.Own.{Agree}
use Rattle.report.proofs.Exact.{lists}
use Rattle.report.proofs.Own.{same_report, own_client}
use Rattle.c_answers.specs.Answer.{half, capped, in_halves, number_in, size_or_index_in}
use Rattle.c_answers.proofs.Packs.{halves}
use Rattle.c_words.specs.Words.{front_words, back_words, words_of, places_in, fields_in, summary_words}
use Rattle.c_words.specs.Says.{fields_say, how_many, text_says, summary_says, how_many_hits}
use Rattle.c_words.specs.Promise.{ReadWordsPromise, WriteWordsPromise, ReportWordsPromise}
use Rattle.c_words.proofs.Pastes.{front_length, back_length}
use Rattle.same.specs.Says.{strip_says}
use Rattle.same.specs.declared.SameVoted.{SameVoted}
use Rattle.same.specs.Promise.{SameStripPromise, SameVotePromise}
use Rattle.demands.specs.Changes.{Change, stood}
use Rattle.demands.specs.Outside.{OutsideNumber}
use Rattle.demands.specs.OutsideCalls.{CalledOutside}
use Rattle.demands.specs.OutsideDemands.{alert_of_words, OutsideReport, OutsideReports, SameFields, OutsideDemands}
use Rattle.demands.proofs.OutsideHistory.{left_afresh, outside_history}
use Rattle.demands.proofs.OutsideWords.{fields_back, words_back}

-- a granted answer: 0, and what is beside it where a half can hold it
gives : (s : Said ℕ) (r v : ℕ) → r ≡ in_halves s → s ≡ granted v → v < half → (number_in r ≡ 0) × (size_or_index_in r ≡ v)
gives s r v e g l =
    let h = halves (granted v) (omega arith) in
    let q : r ≡ in_halves (granted v) = e ∙ ap in_halves g in
    let c : capped v ≡ v = omega arith in
    (ap number_in q ∙ h.0, ap size_or_index_in q ∙ h.1 ∙ c)

-- ---- the vote

vote : (h a b c out : List ℕ) (r : SameVoted) (left : List ℕ) → OfBytes h a b c → Sent h a b c (length out) → SameVotePromise a b c out r left
    → (number_in r.answer ≡ 0) × (size_or_index_in r.answer ≡ length h) × (left ≡ pasted out 0 h)
vote h a b c out r left of s p =
    let k = consequence h a b c out of s in
    let g = gives (vote_says a b c (length out)) r.answer (length h) p.says k.0 (omega (arith, s.short)) in
    (g.0, g.1, p.space ∙ k.1)

strip_tells : (burst : List ℕ) (x : ℕ) → SameStripPromise burst x → (number_in x ≡ 0) × (size_or_index_in x ≡ lead burst) × (size_or_index_in x ≤ 16)
strip_tells burst x p =
    let g = gives (strip_says burst) x (lead burst) p.says refl (omega (arith, lead_most burst)) in
    (g.0, g.1, rw g.1 (lead_most burst))

vote_carries : (a b c out : List ℕ) (r : SameVoted) (left : List ℕ) (x y z : ℕ) → SameVotePromise a b c out r left
    → SameStripPromise a x → SameStripPromise b y → SameStripPromise c z
    → (r.first ≡ size_or_index_in x) × (r.second ≡ size_or_index_in y) × (r.third ≡ size_or_index_in z) × (r.first ≤ 16) × (r.second ≤ 16) × (r.third ≤ 16)
vote_carries a b c out r left x y z p f g h = (
  p.first ∙ sym (strip_tells a x f).1,
  p.second ∙ sym (strip_tells b y g).1,
  p.third ∙ sym (strip_tells c z h).1,
  rw p.first (lead_most a),
  rw p.second (lead_most b),
  rw p.third (lead_most c),
)

-- ---- a text that was read

record Reads (text lent words : List ℕ) : Type 0 where
  alert : Alert
  reads : read_says text ≡ granted alert
  room : 50 ≤ length lent
  fine : Allowed alert
  left : words ≡ pasted lent 0 (words_of (fields_of alert))
  says : alert_of_words words ≡ alert

-- what is read where there is room, and told in words
reads_into : (text lent : List ℕ) (a : Alert) → read_says text ≡ granted a → 50 ≤ length lent → fields_say text (length lent) ≡ granted a
unfolding fields_say
reads_into text lent a e h = rw (e, le-ltb (length lent) 50 h)

module _ (n : OutsideNumber) where
  is_read : (text lent : List ℕ) (r : ℕ) (words : List ℕ) → ReadWordsPromise text lent r words → number_in r ≡ 0 → Reads text lent words
  unfolding fields_say
  is_read text lent r words p z =
      by (read_says text) refl (ltb (length lent) 50) refl ((n.read text (length lent)).zero (ap number_in (sym p.says) ∙ z))
    where
      by : (o : Said Alert) → read_says text ≡ o → (b : Bool) → ltb (length lent) 50 ≡ b
          → is_refusal (how_many (next o (λ a. choose b (refused 13) (granted a)))) ≡ false → Reads text lent words
      by (granted a) e true q h = impossible (sym h)
      by (refused k) e b q h = impossible (sym h)
      by (refused_at k i) e b q h = impossible (sym h)
      by (granted a) e false q h =
          let room : 50 ≤ length lent = ltb-false (length lent) 50 q in
          let ok : Allowed a = allowed a (read_form text a e).0 in
          let l : words ≡ pasted lent 0 (words_of (fields_of a)) =
          p.space ∙ ap (λ (s : Said Alert). leaves (λ x out. pasted out 0 (words_of (fields_of x))) s lent) (reads_into text lent a e room) in
          record {
            alert = a;
            reads = e;
            room = room;
            fine = ok;
            left = l;
            says = ap alert_of_words l ∙ ap alert_in (fields_back a ok lent) ∙ kept a;
          }

-- ---- the report

-- a report that is granted, with room for its summary
shows : (book : List ℕ) (client : ℕ) (text : List ℕ) (at : Clock) (words room : ℕ) (g : Full) → report_says book client text at room ≡ granted g → 16 ≤ words
    → summary_says book client text at words room ≡ granted g
unfolding summary_says
shows book client text at words room g e h = rw (e, le-ltb words 16 h)

module _ (run : List Change) (book : List ℕ) (client : ℕ) (a : Alert) (text : List ℕ) (at : Clock)
    (summary hits : List ℕ) (r : ℕ) (left rest : List ℕ)
    (c : CalledOutside empty run book) (reads : read_says text ≡ granted a) (p : ReportWordsPromise book client text at summary hits r left rest) where
  exact : bad_client client ≡ false → is_clock at ≡ true → has_day (year_of at a.day a.hour a.minute) a.day ≡ true
      → 16 ≤ length summary → 2 * tally (wanted client a) (stood run) ≤ length hits → OutsideReport (stood run) client a at summary hits r left rest
  exact someone clock day words fits =
      let fresh = left_afresh run book c in
      let l = lists (stood run) book fresh client text a at hits someone reads clock day fits in
      let full : Full = record { summary = summary_of at a l.hits; hits = l.hits } in
      let said : Said Full = summary_says book client text at (length summary) (length hits) in
      let s : said ≡ granted full = shows book client text at (length summary) (length hits) full l.says words in
      let few = (afresh_valid form form_laws (stood run) book fresh).few in
      let most = tally_le (wanted client a) (stood run) in
      let g = gives (how_many_hits said) r (length l.hits) p.says (ap how_many_hits s) (omega (arith, l.count)) in
      record {
        listed = l.hits;
        exactly = l.exactly;
        order = l.order;
        number = g.0;
        count = g.1 ∙ l.count;
        summary_written = p.summary ∙ ap (λ (o : Said Full). leaves (λ x out. pasted out 0 (summary_words x.summary)) o summary) s;
        hit_words = p.hits ∙ ap (λ (o : Said Full). leaves writes_hits o hits) s;
      }

module _ (client : ℕ) (h k : List Change) (b c : List ℕ) (p : CalledOutside empty h b) (q : CalledOutside empty k c)
    (agree : Agree (is_of client) (stood h) (stood k)) where
  same_summary : (text : List ℕ) (at : Clock) (words room : ℕ) → summary_says b client text at words room ≡ summary_says c client text at words room
  unfolding summary_says
  same_summary text at words room =
      rw (same_report (is_of client) client (own_client client) (stood h) (stood k) b c (left_afresh h b p) (left_afresh k c q) agree text at room)

  own_only : (text : List ℕ) (at : Clock) (summary hits : List ℕ) (r s : ℕ) (left rest kept held : List ℕ)
      → ReportWordsPromise b client text at summary hits r left rest → ReportWordsPromise c client text at summary hits s kept held
      → (r ≡ s) × (left ≡ kept) × (rest ≡ held)
  own_only text at summary hits r s left rest kept held x y =
      let e = same_summary text at (length summary) (length hits) in (
        x.says ∙ ap (λ (o : Said Full). in_halves (how_many_hits o)) e ∙ sym y.says,
        x.summary ∙ ap (λ (o : Said Full). leaves (λ g out. pasted out 0 (summary_words g.summary)) o summary) e ∙ sym y.summary,
        x.hits ∙ ap (λ (o : Said Full). leaves writes_hits o hits) e ∙ sym y.hits,
      )

pub outside_reports : OutsideNumber → OutsideReports
outside_reports n = record {
  report_exact = λ run book client text fields q words at summary hits r left rest c p z k someone clock day enough fits.
      let t = is_read n text fields q words p z in
      exact run book client (alert_of_words words) text at summary hits r left rest c (t.reads ∙ ap granted (sym t.says)) k someone clock day enough fits;
  own_only = own_only;
}

-- ---- header texts

-- a text that is written, where there are 50 words
writes_from : (words : List ℕ) (room : ℕ) → 50 ≤ length words → text_says words room ≡ write_says (alert_of_words words) room
unfolding text_says
writes_from words room h = rw (le-ltb (length words) 50 h)

-- what is pasted at the front stands there
front_of : (d t : List ℕ) → take (length t) (pasted d 0 t) ≡ t
unfolding pasted
front_of d t = take_at t (drop (0 + length t) d) (length t) refl

-- as many places as the seventh word says
places_count : (fields : List ℕ) → length (alert_of_words fields).places ≡ get_or fields 6 0
unfolding fields_in
places_count fields = counted_length (places_in fields) (get_or fields 6 0)

fifty : (a : Alert) → Allowed a → length (words_of (fields_of a)) ≡ 50
unfolding words_of
fifty a ok =
    let f : Fields = fields_of a in
    let zeros : List ℕ = replicate (31 - length a.places) 0 in
    let l : length f.places ≡ 31 = length-append a.places zeros ∙ omega (arith, length-replicate {A = ℕ} (31 - length a.places) 0, ok.most) in
    length-append (front_words f) (back_words f)
    ∙ omega (arith, front_length f ok.origin.0 ok.event.0, back_length f ok.sender.0 l)

-- words with the fields up to the last place, and zeros up to the 50th
said_again : (fields words lent : List ℕ) → get_or fields 6 0 ≤ 31 → 50 ≤ length fields
    → words ≡ pasted lent 0 (take (19 + get_or fields 6 0) fields ++ replicate (31 - get_or fields 6 0) 0)
    → SameFields fields words × (drop 50 words ≡ drop 50 lent)
unfolding pasted
said_again fields words lent few long e =
    let n : ℕ = get_or fields 6 0 in
    let front : List ℕ = take (19 + n) fields in
    let zeros : List ℕ = replicate (31 - n) 0 in
    let tail : List ℕ = drop (0 + length (front ++ zeros)) lent in
    let lf : length front ≡ 19 + n = length-take-le (19 + n) fields (omega arith) in
    let lw : length (front ++ zeros) ≡ 50 = length-append front zeros ∙ omega (arith, lf, length-replicate {A = ℕ} (31 - n) 0) in (
      record {
        same = ap (take (19 + n)) (e ∙ append_assoc front zeros tail) ∙ take_at front (zeros ++ tail) (19 + n) lf;
        zeros =
            ap (λ (l : List ℕ). drop (19 + n) (take 50 l)) e
            ∙ ap (drop (19 + n)) (take_at (front ++ zeros) tail 50 lw)
            ∙ drop_at front zeros (19 + n) lf;
      },
      ap (drop 50) e ∙ drop_at (front ++ zeros) tail 50 lw ∙ ap (λ (m : ℕ). drop m lent) (ap (λ (m : ℕ). 0 + m) lw),
    )

record Writes (fields : List ℕ) (room n : ℕ) : Type 0 where
  long : 50 ≤ length fields
  says : write_says (alert_of_words fields) room ≡ granted n

module _ (n : OutsideNumber) where
  is_written : (fields out : List ℕ) (w : ℕ) (left : List ℕ) → WriteWordsPromise fields out w left → number_in w ≡ 0
      → Writes fields (length out) (length (text_of (alert_of_words fields)))
  unfolding text_says
  is_written fields out w left p z =
      by (ltb (length fields) 50) refl (write_says (alert_of_words fields) (length out)) refl
      ((n.write fields (length out)).zero (ap number_in (sym p.says) ∙ z))
    where
      by : (b : Bool) → ltb (length fields) 50 ≡ b → (o : Said ℕ) → write_says (alert_of_words fields) (length out) ≡ o
          → is_refusal (choose b (refused 13) o) ≡ false
          → Writes fields (length out) (length (text_of (alert_of_words fields)))
      by true q o e h = impossible (sym h)
      by false q (refused k) e h = impossible (sym h)
      by false q (refused_at k i) e h = impossible (sym h)
      by false q (granted k) e h =
          record { long = ltb-false (length fields) 50 q; says = e ∙ ap granted (sym (grants (alert_of_words fields) (length out) k e).long) }

  write_read : (fields out : List ℕ) (w : ℕ) (left lent : List ℕ) (r : ℕ) (words : List ℕ)
      → WriteWordsPromise fields out w left → number_in w ≡ 0 → ReadWordsPromise (take (size_or_index_in w) left) lent r words → 50 ≤ length lent
      → (number_in r ≡ 0) × (size_or_index_in r ≡ get_or fields 6 0) × SameFields fields words × (drop 50 words ≡ drop 50 lent)
  write_read fields out w left lent r words p z q room =
      let a : Alert = alert_of_words fields in
      let x = is_written fields out w left p z in
      let fine : WellFormed a = (grants a (length out) (length (text_of a)) x.says).fine in
      let ok : Allowed a = allowed a fine in
      let s : text_says fields (length out) ≡ granted (length (text_of a)) = writes_from fields (length out) x.long ∙ x.says in
      let wrote = gives (text_says fields (length out)) w (length (text_of a)) p.says s (omega (arith, text_length a fine, ok.most)) in
      let l : left ≡ pasted out 0 (text_of a) = p.space ∙ ap (λ (o : Said ℕ). leaves (λ n d. pasted d 0 (text_of a)) o out) s in
      let text : List ℕ = take (size_or_index_in w) left in
      let t : text ≡ text_of a = (λ i. take (wrote.1 i) (l i)) ∙ front_of out (text_of a) in
      let f : fields_say text (length lent) ≡ granted a = reads_into text lent a (ap read_says t ∙ form_read a fine) room in
      let read = gives (how_many (fields_say text (length lent))) r (length a.places) q.says (ap how_many f) (omega (arith, ok.most)) in
      let v : words ≡ pasted lent 0 (words_of (fields_of a)) =
      q.space ∙ ap (λ (o : Said Alert). leaves (λ y d. pasted d 0 (words_of (fields_of y))) o lent) f in
      let n : length a.places ≡ get_or fields 6 0 = places_count fields in
      let k = said_again fields words lent (omega (arith, ok.most)) x.long (v ∙ ap (pasted lent 0) (words_back fields x.long ok)) in
      (read.0, read.1 ∙ n, k.0, k.1)

  read_write : (text lent : List ℕ) (r : ℕ) (words out : List ℕ) (w : ℕ) (left : List ℕ)
      → ReadWordsPromise text lent r words → number_in r ≡ 0 → WriteWordsPromise words out w left → length text ≤ length out
      → (number_in w ≡ 0) × (size_or_index_in w ≡ length text) × (left ≡ pasted out 0 text)
  read_write text lent r words out w left p z q room =
      let t = is_read n text lent r words p z in
      let a : Alert = t.alert in
      let f = read_form text a t.reads in
      let e : length (text_of a) ≡ length text = ap length (sym f.1) in
      let kept_length = pasted_length lent 0 (words_of (fields_of a)) (omega (arith, fifty a t.fine, t.room)) in
      let long : 50 ≤ length words = omega (arith, ap length t.left, kept_length, t.room) in
      let s : text_says words (length out) ≡ granted (length text) =
      writes_from words (length out) long
      ∙ ap (λ (x : Alert). write_says x (length out)) t.says
      ∙ form_write a (length out) f.0 (omega arith)
      ∙ ap granted e in
      let g = gives (text_says words (length out)) w (length text) q.says s (omega (arith, e, text_length a f.0, t.fine.most)) in (
        g.0,
        g.1,
        q.space ∙ ap (λ (o : Said ℕ). leaves (λ k d. pasted d 0 (text_of (alert_of_words words))) o out) s
            ∙ ap (λ (x : Alert). pasted out 0 (text_of x)) t.says ∙ ap (pasted out 0) (sym f.1),
      )

pub outside_demands : OutsideNumber → OutsideDemands
outside_demands n = record {
  history = outside_history;
  reports = outside_reports n;
  texts = record { write_read = write_read n; read_write = read_write n };
  vote = record { consequence = vote; strip = strip_tells; carries = vote_carries };
}
