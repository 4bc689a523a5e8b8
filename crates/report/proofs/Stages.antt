-- The stages of a report over plain values: what each refusal and each going on says of the whole.
use mathlib.Core.Path.{◌≡◌, refl, sym, ap, ◌∙◌}
use mathlib.Core.Bool.{Bool, true, false}
use mathlib.Core.List.{List, ◌++◌, map}
use Prim.Native.Nat.{ℕ, ◌+◌, ◌*◌, ◌-◌, ◌≤◌}
use native.Mathlib.Omega.{arith}
use lib.Dec.{ltb}
use lib.ListN.{length, take, drop, replicate, length-append, length-map}
use lib.Seq.{take-append-le, take_at, length-take-le}
use Rattle.laws.proofs.Clash.{clash}
use Rattle.laws.specs.Order.{Said, granted, refused, next, choose}
use Rattle.laws.specs.Lists.{every, keep}
use Rattle.laws.specs.Space.{leaves}
use Rattle.header.specs.Header.{Alert}
use Rattle.header.specs.Reading.{read_says}
use Rattle.std.specs.Prelude.{Result, Ok, Err}
use Rattle.refusals.specs.Refusals.{says, said}
use Rattle.refusals.specs.declared.Refusal.{Refusal}
use Rattle.refusals.specs.declared.Refusal.TheVariants.{BadBook, BadClient}
use Rattle.refusals.proofs.Said.{next_refused, leaves_refused, never_granted, says_moved}
use Rattle.header.specs.Answers.{alert_in, fields_of, fields_for, fields_read, said_read}
use Rattle.header.specs.Promise.{ReadPromise}
use Rattle.header.specs.declared.Fields.{Fields}
use Rattle.event.specs.Events.{is_listed}
use Rattle.event.specs.Class.{class_of}
use Rattle.event.specs.declared.ListedClass.{ListedClass}
use Rattle.place.specs.Packed.{packed_place}
use Rattle.clock.specs.Clock.{has_day, is_clock}
use Rattle.clock.specs.Lifetime.{year_of, times_of}
use Rattle.clock.specs.Answers.{times_says}
use Rattle.clock.specs.declared.Clock.{Clock}
use Rattle.clock.specs.declared.Times.{Times}
use Rattle.clock.proofs.Header.{bad_clock_refused, no_day_refused, timed}
use Rattle.book_rules.specs.Form.{form, bad_client}
use Rattle.book_rules.specs.Rules.{good}
use Rattle.book_rules.specs.Subscription.{Sub}
use Rattle.book_rules.specs.Afresh.{subs}
use Rattle.report.specs.Hits.{is_hit, hits_of}
use Rattle.report.specs.Report.{Full, summary_of, alert_says, list_says, report_says}
use Rattle.report.specs.Answers.{answer_says}
use Rattle.report.specs.Promise.{writes_hits, ReportPromise}
use Rattle.report.specs.Steps.{found, hit_subs, ListsHits, listed_class_of, timed_says, TimedReport, Readable, AlertReport}
use Rattle.report.specs.declared.Summary.{Summary}
use Rattle.report.proofs.Found.{hits_found}
use Rattle.header.proofs.Callers.{Allowed, allowed}
use Rattle.header.proofs.Round.{read_form}

-- ---- once the times are known

module _ (times : Times) (a : Alert) (hits : List Sub) (out : List ℕ) where
  abbrev short_of : Bool
  short_of = ltb (length out) (2 * length hits)

  -- what is said of room: too little, or so many hits
  abbrev room_says : Bool → Said ℕ
  room_says b = choose b (refused 13) (granted (length hits))

  is_short : (e : Refusal) (b : Bool) → room_says b ≡ says e → b ≡ true
  is_short e true p = refl
  is_short e false p = never_granted e (sym p)

  is_all : (n : ℕ) (b : Bool) → granted n ≡ room_says b → (b ≡ false) × (length hits ≡ n)
  is_all n true e = clash cc
  is_all n false e = (refl, cc)

  pub short : (e : Refusal) (r : Result ℕ Refusal) (left : List ℕ) (answer : Result Summary Refusal) → ListsHits hits out r left → r ≡ Err e
      → said answer ≡ says e → TimedReport times a hits out answer left
  unfolding timed_says
  short e r left answer l p h =
      let q : says e ≡ room_says short_of = sym (ap said p) ∙ l.says in
      let b : short_of ≡ true = is_short e short_of (sym q) in
      record { says = h ∙ sym (says_moved e (refused 13) (q ∙ rw b)) ∙ rw b; lent = l.lent ∙ rw b }

  abbrev summary_with : ℕ → Summary
  summary_with n = record { times = times; event = a.event; listed = is_listed a.event; class = class_of a.event; hits = n }

  pub listed : (r : Result ℕ Refusal) (left : List ℕ) (n : ℕ) (answer : Result Summary Refusal) → ListsHits hits out r left → r ≡ Ok n
      → answer ≡ Ok (summary_with n) → TimedReport times a hits out answer left
  unfolding timed_says
  listed r left n answer l e p =
      let k = is_all n short_of (sym (ap said e) ∙ l.says) in
      record { says = rw (p, k.0, k.1); lent = l.lent ∙ rw k.0 }

-- ---- an alert that was read

module _ (at : Clock) (f : Fields) (fine : Readable f) (hits : List Sub) (out : List ℕ) where
  abbrev timed_is : Said Times
  timed_is = times_says at f.day f.hour f.minute f.duration

  abbrev exists : Bool
  exists = has_day (year_of at f.day f.hour f.minute) f.day

  abbrev whole : Said Full
  whole = alert_says at (length out) (alert_in f) hits

  abbrev rest : Times → Said Full
  rest t = timed_says t (length out) (alert_in f) hits

  -- 15 comes first, then 14, then what asks for room
  fifteen_first : is_clock at ≡ false → whole ≡ refused 15
  unfolding alert_says
  fifteen_first p = rw p

  fourteen_second : is_clock at ≡ true → exists ≡ false → whole ≡ refused 14
  unfolding alert_says
  fourteen_second p q = rw (p, q)

  room_last : is_clock at ≡ true → exists ≡ true → whole ≡ rest (times_of at f.day f.hour f.minute f.duration)
  unfolding alert_says timed_says summary_of
  room_last p q = rw (p, q)

  alert_is : whole ≡ next timed_is rest
  alert_is = by (is_clock at) exists refl refl
    where
      after : (s : Said Times) → timed_is ≡ s → next s rest ≡ next timed_is rest
      after s e = ap (λ (o : Said Times). next o rest) (sym e)

      by : (x y : Bool) → is_clock at ≡ x → exists ≡ y → whole ≡ next timed_is rest
      by false y p q = fifteen_first p ∙ after _ (bad_clock_refused at f.day f.hour f.minute f.duration fine.issue fine.lasts p)
      by true false p q = fourteen_second p q ∙ after _ (no_day_refused at f.day f.hour f.minute f.duration fine.issue fine.lasts p q)
      by true true p q = room_last p q ∙ after _ (timed at f.day f.hour f.minute f.duration fine.issue fine.lasts p q)

  pub untimely : (e : Refusal) (r : Result Summary Refusal) → timed_is ≡ says e → said r ≡ says e → AlertReport at (alert_in f) hits out r out
  untimely e r p h =
      let q : whole ≡ says e = alert_is ∙ ap (λ (o : Said Times). next o rest) p ∙ next_refused e rest in
      record {
        says = h ∙ sym (ap answer_says q ∙ next_refused e (λ g. granted g.summary));
        lent = sym (ap (λ (s : Said Full). leaves writes_hits s out) q ∙ leaves_refused writes_hits e out);
      }

  pub timely : (t : Times) (r : Result Summary Refusal) (left : List ℕ) → timed_is ≡ granted t → TimedReport t (alert_in f) hits out r left
      → AlertReport at (alert_in f) hits out r left
  timely t r left e p =
      let q : whole ≡ rest t = alert_is ∙ rw e in
      record { says = p.says ∙ ap answer_says (sym q); lent = p.lent ∙ sym (ap (λ (s : Said Full). leaves writes_hits s out) q) }

-- ---- a book, a client and a text

module _ (book : List ℕ) (client : ℕ) (text : List ℕ) (at : Clock) (out : List ℕ) where
  stopped : (s : Said Full) (r : Result Summary Refusal) (left : List ℕ) → report_says book client text at (length out) ≡ s → said r ≡ answer_says s
      → left ≡ leaves writes_hits s out → ReportPromise book client text at out r left
  stopped s r left e p q = record { says = p ∙ ap answer_says (sym e); lent = q ∙ sym (ap (λ (s : Said Full). leaves writes_hits s out) e) }

  pub bad_book : good form book ≡ false → ReportPromise book client text at out (Err BadBook) out
  unfolding report_says
  bad_book g = stopped (refused 16) (Err BadBook) out (rw g) refl refl

  module _ (g : good form book ≡ true) where
    past_book : report_says book client text at (length out) ≡ list_says (subs form book) client text at (length out)
    unfolding report_says
    past_book = rw g

    pub no_client : bad_client client ≡ true → ReportPromise book client text at out (Err BadClient) out
    unfolding list_says
    no_client b = stopped (refused 17) (Err BadClient) out (past_book ∙ rw b) refl refl

    module _ (b : bad_client client ≡ false) where
      abbrev on_alert : Alert → Said Full
      on_alert a = alert_says at (length out) a (hits_of client a (subs form book))

      past_client : report_says book client text at (length out) ≡ next (read_says text) on_alert
      unfolding list_says
      past_client = past_book ∙ rw b

      pub no_header : (e : Refusal) (r : Result Summary Refusal) → read_says text ≡ says e → said r ≡ says e → ReportPromise book client text at out r out
      no_header e r p h =
          stopped (says e) r out (past_client ∙ ap (λ (s : Said Alert). next s on_alert) p ∙ next_refused e on_alert)
          (h ∙ sym (next_refused e (λ g. granted g.summary))) (sym (leaves_refused writes_hits e out))

      pub with_header : (a : Alert) (r : Result Summary Refusal) (left : List ℕ) → read_says text ≡ granted a
          → AlertReport at a (hits_of client a (subs form book)) out r left → ReportPromise book client text at out r left
      with_header a r left e p = stopped (on_alert a) r left (past_client ∙ rw e) p.says p.lent

-- ---- what the reader's answer says

module _ (text : List ℕ) (r : Result Fields Refusal) (p : ReadPromise text r) where
  pub unread : (e : Refusal) → r ≡ Err e → read_says text ≡ says e
  unread e q = sym p.says ∙ ap said_read q

  pub read_is : (f : Fields) → r ≡ Ok f → read_says text ≡ granted (alert_in f)
  read_is f q = sym p.says ∙ ap said_read q

  pub readable : (f : Fields) → r ≡ Ok f → Readable f
  readable f e =
      let a : Alert = alert_in f in
      let g : read_says text ≡ granted a = read_is f e in
      let k : Allowed a = allowed a (read_form text a g).0 in
      let q : f ≡ fields_of a = sym (ap fields_read e) ∙ p.fields ∙ ap fields_for g in
      let n : f.count ≡ length a.places = ap (λ (x : Fields). x.count) q in
      let pad : List ℕ = replicate (31 - length a.places) 0 in
      let l : length f.places ≡ length a.places + length pad = ap (λ (x : Fields). length x.places) q ∙ length-append a.places pad in
      record { places = record { few = omega (arith, k.most); codes = k.codes }; issue = k.issue; lasts = k.minutes }

-- the places that the code hands on, packed in front of what else stands in the array; and the hits by them
module _ (f : Fields) (h : f.count ≤ length f.places) (last : List ℕ) (packs : last ≡ map packed_place (take f.count f.places)) where
  abbrev sent : List ℕ
  sent = take f.count (last ++ drop f.count f.places)

  pub packed_long : length last ≡ f.count
  packed_long = ap length packs ∙ length-map (take f.count f.places) packed_place ∙ length-take-le f.count f.places h

  pub packed_front : sent ≡ last
  packed_front = take_at last (drop f.count f.places) f.count packed_long

  sent_are : last ≡ map packed_place (alert_in f).places
  sent_are = packs ∙ ap (map packed_place) (sym (take-append-le f.count f.places (replicate f.count 0) h))

  module _ (client : ℕ) (k : ListedClass) (book : List ℕ) where
    pub hits_are : good form book ≡ true → every (λ p. ltb p 1000000) (alert_in f).places ≡ true → k ≡ listed_class_of f.event
        → hit_subs (found client k.class sent) book ≡ hits_of client (alert_in f) (subs form book)
    unfolding hits_of
    hits_are g codes e =
        ap (λ (s : List ℕ). hit_subs (found client k.class s) book) (packed_front ∙ sent_are)
        ∙ hits_found client k.class (alert_in f).places codes book g
        ∙ ap (λ (y : ListedClass). keep (is_hit client y.class (alert_in f).places) (subs form book)) e
