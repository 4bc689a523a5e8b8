-- Paper 02 §6, "The national code": what it says of places and of reports, in its order.
use Rattle.std.specs.Prelude.{ℕ, ◌*◌, ◌≤◌, ◌≡◌, Bool, true, false, ◌&&◌, ◌||◌, List, ◌∷◌, length, eqb, Result, Ok}
use Rattle.laws.specs.Order.{granted, choose}
use Rattle.laws.specs.Lists.{some, tally}
use Rattle.laws.specs.Space.{pasted}
use Rattle.header.specs.Header.{Alert}
use Rattle.header.specs.Reading.{read_says}
use Rattle.event.specs.Class.{class_of}
use Rattle.place.specs.Place.{state, match_by_parts, matches, matches_some}
use Rattle.place.specs.FirstWord.{bad_place}
use Rattle.clock.specs.Clock.{has_day, is_clock}
use Rattle.clock.specs.Lifetime.{year_of}
use Rattle.clock.specs.declared.Clock.{Clock}
use Rattle.book_rules.specs.Form.{bad_client}
use Rattle.book_rules.specs.Rules.{empty}
use Rattle.book_rules.specs.Subscription.{Sub, how_often}
use Rattle.book_rules.specs.History.{Edit, standing}
use Rattle.report.specs.Hits.{has_class, matching, is_of, pairs}
use Rattle.report.specs.Report.{summary_of}
use Rattle.report.specs.Exact.{After, wanted}
use Rattle.report.specs.Promise.{ReportPromise}
use Rattle.refusals.specs.declared.Refusal.{Refusal}
use Rattle.report.specs.Answers.{HasHits}
use Rattle.report.specs.declared.Summary.{Summary}
use Rattle.c_answers.specs.Answer.{number_in, size_or_index_in}
use Rattle.c_words.specs.Words.{summary_words}
use Rattle.c_words.specs.Promise.{ReadWordsPromise, ReportWordsPromise}
use Rattle.demands.specs.Calls.{Called}
use Rattle.demands.specs.Changes.{Change, stood}
use Rattle.demands.specs.OutsideCalls.{CalledOutside}
use Rattle.demands.specs.OutsideDemands.{alert_of_words}

-- ---- places

pub record NationalPlaces : Type 0 where
  -- six zeros match every place
  pub national : (watched : ℕ) → matches watched 0 ≡ true
  -- 0 in the state with any other digit set matches none, 000001 and 100000 among them
  pub no_state : (watched sent : ℕ) → state sent ≡ 0 → (sent ≡ 0 → ⊥) → matches watched sent ≡ false
  pub county_alone : (watched : ℕ) → matches watched 1 ≡ false
  pub part_alone : (watched : ℕ) → matches watched 100000 ≡ false
  -- with any state the rule is paper 01's
  pub as_01 : (watched sent : ℕ) → (state sent ≡ 0 → ⊥) → matches watched sent ≡ match_by_parts watched sent
  -- of a place that a book takes, no place sent but 000000 gets another answer than by paper 01, which matched it with nobody
  pub amends : (watched sent : ℕ) → bad_place watched ≡ false → matches watched sent ≡ eqb sent 0 || match_by_parts watched sent
  pub nobody_by_01 : (watched : ℕ) → bad_place watched ≡ false → match_by_parts watched 0 ≡ false

-- ---- headers

-- 000000 is among some places
abbrev pub nationwide : List ℕ → Bool
nationwide places = some (eqb 0) places

-- it is this client's and its wish has the class, wherever its place is
abbrev pub wished : ℕ → Alert → Sub → Bool
wished client a x = is_of client x && has_class x.wish (class_of a.event)

pub record NationalHeaders : Type 0 where
  -- where 000000 is among a header's places, at whatever index, the place of every subscription matches, and the wish decides
  pub every_place : (watched : ℕ) (places : List ℕ) → nationwide places ≡ true → matches_some watched places ≡ true
  pub wish_decides : (class : ℕ) (places : List ℕ) (x : Sub) → nationwide places ≡ true → matching class places x ≡ has_class x.wish class
  pub own_wish : (client : ℕ) (a : Alert) (x : Sub) → nationwide a.places ≡ true → wanted client a x ≡ wished client a x
  -- any other place without a state adds nothing to those beside it
  pub adds_nothing : (watched place : ℕ) (places : List ℕ) → state place ≡ 0 → (place ≡ 0 → ⊥)
      → matches_some watched (place ∷ places) ≡ matches_some watched places

-- ---- reports, of demand 3

-- of what stands, exactly this client's whose wish has the class, each once, in place order
pub record AllWished (list : List Sub) (client : ℕ) (a : Alert) (hits : List Sub) : Type 0 where
  pub exactly : (x : Sub) → how_often x hits ≡ choose (wished client a x) (how_often x list) 0
  pub once : (x : Sub) → how_often x hits ≤ 1
  pub order : After 0 hits

-- what a report answers and leaves
pub record NationalReport (list : List Sub) (client : ℕ) (a : Alert) (at : Clock) (out : List ℕ) (r : Result Summary Refusal) (left : List ℕ) : Type 0 where
  pub hits : List Sub
  pub lists : AllWished list client a hits
  pub says : r ≡ Ok (summary_of at a hits)
  pub count : HasHits (tally (wished client a) list) r
  pub lent : left ≡ pasted out 0 (pairs hits)

-- and what same_report does
pub record NationalWords
    (list : List Sub) (client : ℕ) (a : Alert) (at : Clock) (summary out : List ℕ) (r : ℕ) (left rest : List ℕ) : Type 0 where
  pub hits : List Sub
  pub lists : AllWished list client a hits
  pub number : number_in r ≡ 0
  pub count : size_or_index_in r ≡ tally (wished client a) list
  pub summary_written : left ≡ pasted summary 0 (summary_words (summary_of at a hits))
  pub hit_words : rest ≡ pasted out 0 (pairs hits)

pub record NationalCode : Type 0 where
  pub places : NationalPlaces
  pub headers : NationalHeaders
  -- after any run of edits, a report on a header with 000000 among its places
  pub report : (run : List Edit) (book : List ℕ) (client : ℕ) (text : List ℕ) (a : Alert) (at : Clock) (out : List ℕ) (r : Result Summary Refusal) (left : List ℕ)
      → Called empty run book → ReportPromise book client text at out r left
      → bad_client client ≡ false → read_says text ≡ granted a → is_clock at ≡ true → has_day (year_of at a.day a.hour a.minute) a.day ≡ true
      → nationwide a.places ≡ true → 2 * tally (wished client a) (standing run) ≤ length out
      → NationalReport (standing run) client a at out r left
  -- from outside, on a text that same_read reads to these words
  pub same_report : (run : List Change) (book : List ℕ) (client : ℕ) (text fields : List ℕ) (q : ℕ) (words : List ℕ) (at : Clock)
      (summary out : List ℕ) (r : ℕ) (left rest : List ℕ)
      → let a = alert_of_words words in
      CalledOutside empty run book → ReadWordsPromise text fields q words → number_in q ≡ 0 → ReportWordsPromise book client text at summary out r left rest
      → bad_client client ≡ false → is_clock at ≡ true → has_day (year_of at a.day a.hour a.minute) a.day ≡ true
      → nationwide a.places ≡ true → 16 ≤ length summary → 2 * tally (wished client a) (stood run) ≤ length out
      → NationalWords (stood run) client a at summary out r left rest
