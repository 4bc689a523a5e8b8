-- Demand 3: each line is the theorem of history, report or page, of the book that a run of calls left.
use mathlib.Core.Path.{◌≡◌, refl, sym, ap, ◌∙◌}
use mathlib.Core.Bool.{true, false}
use mathlib.Core.List.{List, [], ◌∷◌}
use Prim.Native.Nat.{ℕ, ◌*◌, ◌≤◌}
use native.Mathlib.Omega.{arith}
use lib.ListN.{length}
use Rattle.laws.specs.Order.{Said, granted}
use Rattle.laws.specs.Lists.{tally}
use Rattle.laws.specs.Space.{pasted, leaves}
use Rattle.laws.proofs.Pasted.{pasted_nil}
use Rattle.header.specs.Header.{Alert}
use Rattle.header.specs.Reading.{read_says}
use Rattle.clock.specs.Clock.{has_day, is_clock}
use Rattle.clock.specs.Lifetime.{year_of}
use Rattle.clock.specs.declared.Clock.{Clock}
use Rattle.book_rules.specs.Form.{form, bad_client}
use Rattle.book_rules.specs.Rules.{empty}
use Rattle.book_rules.specs.Subscription.{Sub}
use Rattle.book_rules.specs.Afresh.{subs, Afresh}
use Rattle.book_rules.specs.History.{Edit, adds, removes, answer, book_after, number, standing_from, standing}
use Rattle.book_rules.proofs.Form.{form_laws}
use Rattle.book_history.proofs.Run.{afresh_answers}
use Rattle.book_history.proofs.Proved.{form_book_and_history}
use Rattle.report.specs.Hits.{is_of, pairs}
use Rattle.report.specs.Report.{Full, summary_of, report_says}
use Rattle.std.specs.Prelude.{Result, Ok}
use Rattle.refusals.specs.declared.Refusal.{Refusal}
use Rattle.refusals.proofs.NoChoice.{said_one}
use Rattle.report.specs.Answers.{answer_says, HasHits}
use Rattle.report.specs.declared.Summary.{Summary}
use Rattle.report.specs.Exact.{wanted}
use Rattle.report.specs.Own.{Agree}
use Rattle.report.specs.Promise.{writes_hits, ReportPromise}
use Rattle.report.proofs.Exact.{lists, nothing_hit}
use Rattle.report.proofs.Own.{same_report, own_client}
use Rattle.page.proofs.Own.{page_own_only}
use Rattle.page.proofs.Cut.{page_cut}
use Rattle.page.proofs.Room.{page_in_room, page_printed}
use Rattle.demands.specs.Calls.{Called}
use Rattle.demands.specs.Demand3.{TheHistory, ReportIs, Reports, OwnOnly, Pages, Demand3}
use Rattle.demands.proofs.Calls.{calls, any_run}
use Rattle.demands.proofs.Changes.{load_is}

-- ---- the history

to_book : (run : List Edit) (book : List ℕ) → Called empty run book → book ≡ book_after form run
unfolding book_after
to_book run book c = calls empty run book c

afresh : (list : List Sub) (w u : List ℕ) → u ≡ w → Afresh form list w → Afresh form list u
afresh list w u e a = rw e a

fresh : (run : List Edit) (book : List ℕ) → Called empty run book → Afresh form (standing run) book
fresh run book c = afresh (standing run) (book_after form run) book (to_book run book c) (form_book_and_history.history.leaves run)

answers : (run : List Edit) (book : List ℕ) (e : Edit) → Called empty run book → answer form book e ≡ number (standing run) e
answers run book e c = afresh_answers form form_laws (standing run) book (fresh run book c) e

pub the_history : TheHistory
unfolding answer
the_history = record {
  calls = calls;
  any_run = any_run;
  history = fresh;
  equals = λ run book other c a. to_book run book c ∙ form_book_and_history.history.equals run other a;
  one_book = form_book_and_history.the_book.one_book;
  some_book = form_book_and_history.the_book.some_book;
  no_other_book = form_book_and_history.the_book.no_other;
  add_answers = λ run book place client wish r left c p. p.says ∙ answers run book (adds place client wish) c;
  remove_answers = λ run book place client r left c p. p.says ∙ answers run book (removes place client) c;
  load_answers = λ run book list r left c p. p.says ∙ load_is book list (fresh run book c).keeps;
  history_from = λ w run z g c. afresh (standing_from (subs form w) run) _ z (calls w run z c) ((form_book_and_history.history_from w).leaves g run);
  load_is_adding = form_book_and_history.load_is_adding;
  load_is_building = form_book_and_history.load_is_building;
  book_and_history = form_book_and_history;
}

-- ---- reports

hits_told : (at : Clock) (a : Alert) (hits : List Sub) → (summary_of at a hits).hits ≡ length hits
unfolding summary_of
hits_told at a hits = refl

-- no hits, no words
pastes_none : (hits : List Sub) (out : List ℕ) → length hits ≡ 0 → pasted out 0 (pairs hits) ≡ out
unfolding pairs
pastes_none [] out e = pasted_nil out 0
pastes_none (x ∷ hits) out e = absurd (omega arith)

module _ (run : List Edit) (book : List ℕ) (client : ℕ) (text : List ℕ) (a : Alert) (at : Clock) (out : List ℕ) (r : Result Summary Refusal) (left : List ℕ)
    (c : Called empty run book) (p : ReportPromise book client text at out r left)
    (someone : bad_client client ≡ false) (reads : read_says text ≡ granted a) (clock : is_clock at ≡ true)
    (day : has_day (year_of at a.day a.hour a.minute) a.day ≡ true) where
  exact : 2 * tally (wanted client a) (standing run) ≤ length out → ReportIs (standing run) book client a text at out r left
  exact fits =
      let l = lists (standing run) book (fresh run book c) client text a at out someone reads clock day fits in
      let s : r ≡ Ok (summary_of at a l.hits) = said_one r (Ok (summary_of at a l.hits)) (p.says ∙ ap answer_says l.says) in
      record {
        lists = l;
        says = s;
        count = (summary_of at a l.hits, s, hits_told at a l.hits ∙ l.count);
        lent = p.lent ∙ l.leaves_pairs;
      }

  none : tally (is_of client) (standing run) ≡ 0 → HasHits 0 r × (left ≡ out)
  none e =
      let z : tally (wanted client a) (standing run) ≡ 0 = nothing_hit (standing run) client a e in
      let k = exact (omega arith) in
      ((k.count.0, k.count.1, k.count.2 ∙ z), k.lent ∙ pastes_none k.lists.hits out (k.lists.count ∙ z))

pub reports : Reports
reports = record { report_exact = exact; nothing = none }

-- ---- nobody else's

module _ (client : ℕ) (h k : List Edit) (b c : List ℕ) (p : Called empty h b) (q : Called empty k c)
    (agree : Agree (is_of client) (standing h) (standing k)) where
  own_only : (text : List ℕ) (at : Clock) (room : ℕ) → report_says b client text at room ≡ report_says c client text at room
  own_only = same_report (is_of client) client (own_client client) (standing h) (standing k) b c (fresh h b p) (fresh k c q) agree

  own_only_answer : (text : List ℕ) (at : Clock) (out : List ℕ) (r s : Result Summary Refusal) (left rest : List ℕ)
      → ReportPromise b client text at out r left → ReportPromise c client text at out s rest → (r ≡ s) × (left ≡ rest)
  own_only_answer text at out r s left rest x y =
      let e = own_only text at (length out) in
      (said_one r s (x.says ∙ ap answer_says e ∙ sym y.says), x.lent ∙ ap (λ (o : Said Full). leaves writes_hits o out) e ∙ sym y.lent)

pub nobody_else : OwnOnly
nobody_else = record { own_only = own_only; own_only_answer = own_only_answer }

pub pages : Pages
pages = record {
  page_own_only = page_own_only;
  page_cut = page_cut;
  page_in_room = page_in_room;
  page_printed = λ input out left r p h. page_printed p h;
}

pub demand3 : Demand3
demand3 = record { the_history = the_history; reports = reports; own_only = nobody_else; pages = pages }
