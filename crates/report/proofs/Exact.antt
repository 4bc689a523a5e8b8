-- A report over the book of some subscriptions lists exactly that client's that match, each once, in place order.
use mathlib.Core.Path.{◌≡◌, refl, ap, ◌∙◌}
use mathlib.Core.Bool.{Bool, true, false}
use mathlib.Core.List.{List, [], ◌∷◌}
use Prim.Native.Nat.{ℕ, ◌+◌, ◌*◌, ◌≤◌}
use native.Mathlib.Omega.{arith}
use borrow.Author.Tests.{le-ltb}
use lib.ListN.{length}
use Rattle.laws.specs.Order.{Said, granted, choose}
use Rattle.laws.specs.Lists.{tally, one, keep}
use Rattle.laws.specs.Space.{leaves}
use Rattle.laws.proofs.Tests.{and_l, no_both}
use Rattle.laws.proofs.Tally.{length_keep}
use Rattle.header.specs.Header.{Alert}
use Rattle.header.specs.Reading.{read_says}
use Rattle.event.specs.Class.{class_of}
use Rattle.clock.specs.Clock.{has_day, is_clock}
use Rattle.clock.specs.Lifetime.{year_of}
use Rattle.clock.specs.declared.Clock.{Clock}
use Rattle.book_rules.specs.Form.{form, bad_client}
use Rattle.book_rules.specs.Subscription.{Sub, how_often}
use Rattle.book_rules.specs.Afresh.{subs, Afresh}
use Rattle.book_rules.specs.History.{Edit, standing, book_after}
use Rattle.book_rules.proofs.Form.{form_laws}
use Rattle.book_history.proofs.Keeps.{keep_rise}
use Rattle.book_history.proofs.Afresh.{book_rise, afresh_tallies}
use Rattle.book_history.proofs.Proved.{form_book_and_history}
use Rattle.report.specs.Hits.{is_of, matching, is_hit, hits_of}
use Rattle.report.specs.Report.{Full, summary_of, alert_says, list_says, report_says}
use Rattle.report.specs.Promise.{writes_hits}
use Rattle.report.specs.Exact.{After, wanted, Lists}
use Rattle.report.proofs.Kept.{times_kept, every_kept, place_order}

-- a hit is this client's
pub hit_own : (client class : ℕ) (places : List ℕ) (x : Sub) → is_hit client class places x ≡ true → is_of client x ≡ true
unfolding is_hit
hit_own client class places x e = and_l (is_of client x) (matching class places x) e

-- nothing stands against it: the report is granted
module _ (client : ℕ) (text : List ℕ) (a : Alert) (at : Clock) (room : ℕ) (list : List Sub)
    (someone : bad_client client ≡ false) (reads : read_says text ≡ granted a) (clock : is_clock at ≡ true)
    (day : has_day (year_of at a.day a.hour a.minute) a.day ≡ true) (fits : 2 * length (hits_of client a list) ≤ room) where
  list_granted : list_says list client text at room ≡ granted (record { summary = summary_of at a (hits_of client a list); hits = hits_of client a list })
  unfolding list_says alert_says
  list_granted = rw (someone, reads, clock, day, le-ltb room (2 * length (hits_of client a list)) fits)

module _ (list : List Sub) (book : List ℕ) (fresh : Afresh form list book) where
  count_is : (client : ℕ) (a : Alert) → length (hits_of client a (subs form book)) ≡ tally (wanted client a) list
  unfolding hits_of
  count_is client a = length_keep (wanted client a) (subs form book) ∙ afresh_tallies form form_laws list book fresh (wanted client a)

  exactly_is : (client : ℕ) (a : Alert) (x : Sub) → how_often x (hits_of client a (subs form book)) ≡ choose (wanted client a x) (how_often x list) 0
  unfolding hits_of
  exactly_is client a x = times_kept (wanted client a) x (subs form book) ∙ ap (λ (n : ℕ). choose (wanted client a x) n 0) (fresh.exactly x)

  order_is : (client : ℕ) (a : Alert) → After 0 (hits_of client a (subs form book))
  unfolding hits_of
  order_is client a =
      place_order client (keep (wanted client a) (subs form book))
      (every_kept (wanted client a) (is_of client) (λ x e. hit_own client (class_of a.event) a.places x e) (subs form book))
      (keep_rise (wanted client a) 0 (subs form book) (book_rise form form_laws book fresh.keeps))

  pub lists : (client : ℕ) (text : List ℕ) (a : Alert) (at : Clock) (out : List ℕ)
      → bad_client client ≡ false → read_says text ≡ granted a → is_clock at ≡ true → has_day (year_of at a.day a.hour a.minute) a.day ≡ true
      → 2 * tally (wanted client a) list ≤ length out
      → Lists list client a at out (report_says book client text at (length out))
  unfolding report_says
  lists client text a at out someone reads clock day fits =
      let hits : List Sub = hits_of client a (subs form book) in
      let n = count_is client a in
      let g : list_says (subs form book) client text at (length out) ≡ granted (record { summary = summary_of at a hits; hits = hits }) =
      list_granted client text a at (length out) (subs form book) someone reads clock day (omega arith) in
      let s : report_says book client text at (length out) ≡ granted (record { summary = summary_of at a hits; hits = hits }) = rw fresh.keeps g in
      record {
        hits = hits;
        exactly = exactly_is client a;
        order = order_is client a;
        count = n;
        says = s;
        leaves_pairs = ap (λ (x : Said Full). leaves writes_hits x out) s;
      }

-- demand 3: over the book after any run of edits
pub report_exact : (run : List Edit) (client : ℕ) (text : List ℕ) (a : Alert) (at : Clock) (out : List ℕ)
    → bad_client client ≡ false → read_says text ≡ granted a → is_clock at ≡ true → has_day (year_of at a.day a.hour a.minute) a.day ≡ true
    → 2 * tally (wanted client a) (standing run) ≤ length out
    → Lists (standing run) client a at out (report_says (book_after form run) client text at (length out))
report_exact run = lists (standing run) (book_after form run) (form_book_and_history.history.leaves run)

-- a client with nothing gets 0 hits
pub nothing_hit : (list : List Sub) (client : ℕ) (a : Alert) → tally (is_of client) list ≡ 0 → tally (wanted client a) list ≡ 0
unfolding tally
nothing_hit [] client a e = refl
nothing_hit (x ∷ list) client a e = by (is_of client x) (wanted client a x) refl refl e (nothing_hit list client a)
  where
    by : (b w : Bool) → is_of client x ≡ b → wanted client a x ≡ w → one b + tally (is_of client) list ≡ 0
        → (tally (is_of client) list ≡ 0 → tally (wanted client a) list ≡ 0) → one w + tally (wanted client a) list ≡ 0
    by true w p q e k = absurd (omega arith)
    by false true p q e k = no_both (is_of client x) (hit_own client (class_of a.event) a.places x q) p
    by false false p q e k = omega (arith, k (omega arith))
