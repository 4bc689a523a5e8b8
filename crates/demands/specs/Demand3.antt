-- Demand 3. The book and its history, a client's report, and that it depends on nobody else.
use Rattle.std.specs.Prelude.{ℕ, ◌*◌, ◌≤◌, ◌≡◌, true, false, List, length, take, Result, Ok}
use Rattle.laws.specs.Order.{granted}
use Rattle.laws.specs.Lists.{tally}
use Rattle.laws.specs.Space.{pasted}
use Rattle.header.specs.Header.{Alert}
use Rattle.header.specs.Reading.{read_says}
use Rattle.clock.specs.Clock.{has_day, is_clock}
use Rattle.clock.specs.Lifetime.{year_of}
use Rattle.clock.specs.declared.Clock.{Clock}
use Rattle.book_rules.specs.Form.{form, bad_client}
use Rattle.book_rules.specs.Rules.{good, empty}
use Rattle.book_rules.specs.Subscription.{Sub, how_often}
use Rattle.book_rules.specs.Afresh.{subs, Afresh, Valid, built}
use Rattle.book_rules.specs.History.{Edit, adds, removes, after, number, standing_from, standing}
use Rattle.book_history.specs.Statements.{LoadIsAdding, LoadIsBuilding, BookAndHistory}
use Rattle.refusals.specs.Refusals.{said}
use Rattle.refusals.specs.declared.Refusal.{Refusal}
use Rattle.book_edits.specs.Promise.{AddPromise, RemovePromise, LoadPromise}
use Rattle.report.specs.Hits.{is_of, pairs}
use Rattle.report.specs.Report.{summary_of, report_says}
use Rattle.report.specs.Exact.{wanted, Lists}
use Rattle.report.specs.Own.{Agree}
use Rattle.report.specs.Promise.{ReportPromise}
use Rattle.report.specs.Answers.{HasHits}
use Rattle.report.specs.declared.Summary.{Summary}
use Rattle.input_lines.specs.Forms.{client_line}
use Rattle.page_printing.specs.Page.{page_room}
use Rattle.page.specs.Page.{page_of}
use Rattle.page.specs.Promise.{PagePromise}
use Rattle.page.specs.Own.{subs_in, GrantedInput}
use Rattle.demands.specs.Changes.{load_number}
use Rattle.demands.specs.Calls.{Called}

-- ---- "Start with an empty book and make any run of additions and removals, granted or refused. The book then equals, in every word, the
-- one built afresh from the subscriptions that the history says still stand."

pub record TheHistory : Type 0 where
  -- what the calls leave is what the history's definition says, from any book
  pub calls : (w : List ℕ) (run : List Edit) (z : List ℕ) → Called w run z → z ≡ after form w run
  -- and every run can be called
  pub any_run : (w : List ℕ) (run : List Edit) → Called w run (after form w run)
  -- so a run of calls on the empty book leaves the one built afresh from what stands
  pub history : (run : List Edit) (book : List ℕ) → Called empty run book → Afresh form (standing run) book
  -- it equals that book, in every word
  pub equals : (run : List Edit) (book fresh : List ℕ) → Called empty run book → Afresh form (standing run) fresh → book ≡ fresh
  -- one-book: there is only one, in whatever order the subscriptions are given
  pub one_book : (a b : List Sub) (w u : List ℕ) → ((x : Sub) → how_often x a ≡ how_often x b) → Afresh form a w → Afresh form b u → w ≡ u
  -- some-book: there is one exactly where the subscriptions could stand together: in range, no pair of place and client twice, at most 4,096
  pub some_book : (list : List Sub) → Valid list → Afresh form list (built form list)
  pub no_other_book : (list : List Sub) (w : List ℕ) → Afresh form list w → Valid list
  -- answers: each call on such a book answers the number that what stands gives; a load, the one that its items give, whatever stands
  pub add_answers : (run : List Edit) (book : List ℕ) (place client wish : ℕ) (r : Result (Unit {0}) Refusal) (left : List ℕ)
      → Called empty run book → AddPromise book place client wish r left → said r ≡ number (standing run) (adds place client wish)
  pub remove_answers : (run : List Edit) (book : List ℕ) (place client : ℕ) (r : Result (Unit {0}) Refusal) (left : List ℕ)
      → Called empty run book → RemovePromise book place client r left → said r ≡ number (standing run) (removes place client)
  pub load_answers : (run : List Edit) (book list : List ℕ) (r : Result (Unit {0}) Refusal) (left : List ℕ)
      → Called empty run book → LoadPromise book list r left → said r ≡ load_number list
  -- the same from any good book, loaded or not: what stands is then what it held and what the edits made of it
  pub history_from : (w : List ℕ) (run : List Edit) (z : List ℕ) → good form w ≡ true → Called w run z → Afresh form (standing_from (subs form w) run) z
  -- load-is-adding: a load equals adding each in order to an empty book; the first refusal leaves the old book
  pub load_is_adding : (w list : List ℕ) → LoadIsAdding form w list
  pub load_is_building : (w list : List ℕ) → LoadIsBuilding form w list
  -- and all else that is proved of the book and its history
  pub book_and_history : BookAndHistory form

-- ---- "Over such a book, a client's report on a readable header, at a clock and for a day that the specification admits, lists exactly that
-- client's matching subscriptions, each once, in place order, if the space lent holds them."

-- what a report answers and leaves: the list of hits is exactly that, its length is the count told, and its pairs are the words written
pub record ReportIs
    (list : List Sub) (book : List ℕ) (client : ℕ) (a : Alert) (text : List ℕ) (at : Clock) (out : List ℕ) (r : Result Summary Refusal) (left : List ℕ)
    : Type 0 where
  pub lists : Lists list client a at out (report_says book client text at (length out))
  pub says : r ≡ Ok (summary_of at a lists.hits)
  pub count : HasHits (tally (wanted client a) list) r
  pub lent : left ≡ pasted out 0 (pairs lists.hits)

pub record Reports : Type 0 where
  pub report_exact : (run : List Edit) (book : List ℕ) (client : ℕ) (text : List ℕ) (a : Alert) (at : Clock) (out : List ℕ) (r : Result Summary Refusal) (left : List ℕ)
      → Called empty run book → ReportPromise book client text at out r left
      → bad_client client ≡ false → read_says text ≡ granted a → is_clock at ≡ true → has_day (year_of at a.day a.hour a.minute) a.day ≡ true
      → 2 * tally (wanted client a) (standing run) ≤ length out
      → ReportIs (standing run) book client a text at out r left
  -- a client with nothing in the book gets 0 hits, whatever space is lent: the report is granted, and writes no word of it
  pub nothing : (run : List Edit) (book : List ℕ) (client : ℕ) (text : List ℕ) (a : Alert) (at : Clock) (out : List ℕ) (r : Result Summary Refusal) (left : List ℕ)
      → Called empty run book → ReportPromise book client text at out r left
      → bad_client client ≡ false → read_says text ≡ granted a → is_clock at ≡ true → has_day (year_of at a.day a.hour a.minute) a.day ≡ true
      → tally (is_of client) (standing run) ≡ 0
      → HasHits 0 r × (left ≡ out)

-- ---- "Two such books that agree on one client's subscriptions give that client the same report, refusals included."

pub record OwnOnly : Type 0 where
  pub own_only : (client : ℕ) (h k : List Edit) (b c : List ℕ) → Called empty h b → Called empty k c → Agree (is_of client) (standing h) (standing k)
      → (text : List ℕ) (at : Clock) (room : ℕ) → report_says b client text at room ≡ report_says c client text at room
  -- of what the call answers and leaves in the lent words
  pub own_only_answer : (client : ℕ) (h k : List Edit) (b c : List ℕ) → Called empty h b → Called empty k c → Agree (is_of client) (standing h) (standing k)
      → (text : List ℕ) (at : Clock) (out : List ℕ) (r q : Result Summary Refusal) (left rest : List ℕ)
      → ReportPromise b client text at out r left → ReportPromise c client text at out q rest → (r ≡ q) × (left ≡ rest)

-- ---- the same of the program's page

pub record Pages : Type 0 where
  -- two inputs with the same first three lines, whose further lines are all well formed and granted `sub=` lines, and which agree on that
  -- client's subscriptions, print the same page
  pub page_own_only : (t u now client header : List ℕ) (ls ks : List (List ℕ)) → GrantedInput t now client header ls → GrantedInput u now client header ks
      → Agree (is_of (client_line.value client)) (subs_in ls) (subs_in ks) → page_of t ≡ page_of u
  -- the page of an input is that of its first 98,304 bytes
  pub page_cut : (input : List ℕ) → page_of (take 98304 input) ≡ page_of input
  -- a named size holds the page of any input, and where it is lent the page is printed
  pub page_in_room : (input : List ℕ) → length (page_of input) ≤ page_room
  pub page_printed : (input out left : List ℕ) (r : Result ℕ Refusal) → PagePromise input out r left → page_room ≤ length out
      → (said r ≡ granted (length (page_of input))) × (left ≡ pasted out 0 (page_of input))

pub record Demand3 : Type 0 where
  pub the_history : TheHistory
  pub reports : Reports
  pub own_only : OwnOnly
  pub pages : Pages
