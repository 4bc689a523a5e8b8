-- Demands 2 and 3 as a caller from outside meets them (include/same.h): of words, bytes, and answers of 64 bits, to which the
-- vote adds three counts.
use Rattle.std.specs.Prelude.{ℕ, ◌+◌, ◌-◌, ◌*◌, ◌≤◌, ◌≡◌, true, false, List, length, take, drop, replicate, get_or}
use Rattle.laws.specs.Order.{Said, choose}
use Rattle.laws.specs.Lists.{tally}
use Rattle.laws.specs.Space.{pasted}
use Rattle.burst.specs.Strip.{lead}
use Rattle.burst.specs.Sent.{OfBytes, Sent}
use Rattle.header.specs.Header.{Alert}
use Rattle.header.specs.Answers.{alert_in}
use Rattle.clock.specs.Clock.{has_day, is_clock}
use Rattle.clock.specs.Lifetime.{year_of}
use Rattle.clock.specs.declared.Clock.{Clock}
use Rattle.book_rules.specs.Form.{form, bad_client}
use Rattle.book_rules.specs.Rules.{good, empty}
use Rattle.book_rules.specs.Subscription.{Sub, how_often}
use Rattle.book_rules.specs.Afresh.{subs, Afresh}
use Rattle.book_rules.specs.History.{adds, removes}
use Rattle.report.specs.Hits.{is_of, pairs}
use Rattle.report.specs.Report.{summary_of}
use Rattle.report.specs.Exact.{After, wanted}
use Rattle.report.specs.Own.{Agree}
use Rattle.refusals.specs.Refusals.{number_of}
use Rattle.c_answers.specs.Answer.{number_in, size_or_index_in}
use Rattle.c_words.specs.Words.{fields_in, summary_words}
use Rattle.c_words.specs.Promise.{ReadWordsPromise, WriteWordsPromise, ReportWordsPromise}
use Rattle.same.specs.declared.SameVoted.{SameVoted}
use Rattle.same.specs.Promise.{SameStripPromise, SameVotePromise, SameAddPromise, SameRemovePromise, SameLoadPromise}
use Rattle.demands.specs.Changes.{Change, edits, loads, change_number, stood_from, stood}
use Rattle.demands.specs.OutsideCalls.{CalledOutside, Callable}

-- ---- the history over same_add, same_remove and same_load

-- the answer has this number, which is 0 where it is granted, and no size or index
pub record Answers (s : Said (Unit {0})) (r : ℕ) : Type 0 where
  pub number : number_in r ≡ number_of s
  pub size_or_index : size_or_index_in r ≡ 0

pub record OutsideHistory : Type 0 where
  -- every run can be called; a run on the empty book leaves the one built afresh from what stands, and equals it in every word
  pub any_run : (w : List ℕ) (run : List Change) → Callable w run
  pub history : (run : List Change) (book : List ℕ) → CalledOutside empty run book → Afresh form (stood run) book
  pub equals : (run : List Change) (book fresh : List ℕ) → CalledOutside empty run book → Afresh form (stood run) fresh → book ≡ fresh
  -- the same from any good book
  pub history_from : (w : List ℕ) (run : List Change) (book : List ℕ) → good form w ≡ true → CalledOutside w run book
      → Afresh form (stood_from (subs form w) run) book
  -- each call answers the number that what stands gives
  pub add_answers : (run : List Change) (book : List ℕ) (place client wish r : ℕ) (left : List ℕ)
      → CalledOutside empty run book → SameAddPromise book place client wish r left → Answers (change_number (stood run) (edits (adds place client wish))) r
  pub remove_answers : (run : List Change) (book : List ℕ) (place client r : ℕ) (left : List ℕ)
      → CalledOutside empty run book → SameRemovePromise book place client r left → Answers (change_number (stood run) (edits (removes place client))) r
  pub load_answers : (run : List Change) (book items : List ℕ) (r : ℕ) (left : List ℕ)
      → CalledOutside empty run book → SameLoadPromise book items r left → Answers (change_number (stood run) (loads items)) r

-- ---- the report

-- the header that 50 words say
abbrev pub alert_of_words : List ℕ → Alert
alert_of_words words = alert_in (fields_in words)

-- of what stands, a granted report tells in its high half how many are wanted, and writes them, each as often as it stands and nothing
-- else, in place order; and the summary of the header with so many hits
pub record OutsideReport (list : List Sub) (client : ℕ) (a : Alert) (at : Clock) (summary hits : List ℕ) (r : ℕ) (left rest : List ℕ) : Type 0 where
  pub listed : List Sub
  pub exactly : (x : Sub) → how_often x listed ≡ choose (wanted client a x) (how_often x list) 0
  pub order : After 0 listed
  pub number : number_in r ≡ 0
  pub count : size_or_index_in r ≡ tally (wanted client a) list
  pub summary_written : left ≡ pasted summary 0 (summary_words (summary_of at a listed))
  pub hit_words : rest ≡ pasted hits 0 (pairs listed)

pub record OutsideReports : Type 0 where
  -- over a book that such a run left, on a text that same_read reads to these words
  pub report_exact : (run : List Change) (book : List ℕ) (client : ℕ) (text fields : List ℕ) (q : ℕ) (words : List ℕ) (at : Clock)
      (summary hits : List ℕ) (r : ℕ) (left rest : List ℕ)
      → let a = alert_of_words words in
      CalledOutside empty run book → ReadWordsPromise text fields q words → number_in q ≡ 0 → ReportWordsPromise book client text at summary hits r left rest
      → bad_client client ≡ false → is_clock at ≡ true → has_day (year_of at a.day a.hour a.minute) a.day ≡ true
      → 16 ≤ length summary → 2 * tally (wanted client a) (stood run) ≤ length hits
      → OutsideReport (stood run) client a at summary hits r left rest
  -- two such books that agree on one client's subscriptions give that client the same answer and the same words, refusals included
  pub own_only : (client : ℕ) (h k : List Change) (b c : List ℕ) → CalledOutside empty h b → CalledOutside empty k c
      → Agree (is_of client) (stood h) (stood k)
      → (text : List ℕ) (at : Clock) (summary hits : List ℕ) (r q : ℕ) (left rest kept held : List ℕ)
      → ReportWordsPromise b client text at summary hits r left rest → ReportWordsPromise c client text at summary hits q kept held
      → (r ≡ q) × (left ≡ kept) × (rest ≡ held)

-- ---- header texts

-- words that say the same fields as others: the same up to the last of the places that are counted, zeros behind it, 50 in all
pub record SameFields (fields words : List ℕ) : Type 0 where
  pub same : take (19 + get_or fields 6 0) words ≡ take (19 + get_or fields 6 0) fields
  pub zeros : drop (19 + get_or fields 6 0) (take 50 words) ≡ replicate (31 - get_or fields 6 0) 0

pub record OutsideTexts : Type 0 where
  -- fields that same_write wrote, same_read reads back, where there is room for them; it tells how many places
  pub write_read : (fields out : List ℕ) (w : ℕ) (left lent : List ℕ) (r : ℕ) (words : List ℕ)
      → WriteWordsPromise fields out w left → number_in w ≡ 0 → ReadWordsPromise (take (size_or_index_in w) left) lent r words → 50 ≤ length lent
      → (number_in r ≡ 0) × (size_or_index_in r ≡ get_or fields 6 0) × SameFields fields words × (drop 50 words ≡ drop 50 lent)
  -- a text that same_read read, same_write writes back, where there is room for it; it tells how many bytes
  pub read_write : (text lent : List ℕ) (r : ℕ) (words out : List ℕ) (w : ℕ) (left : List ℕ)
      → ReadWordsPromise text lent r words → number_in r ≡ 0 → WriteWordsPromise words out w left → length text ≤ length out
      → (number_in w ≡ 0) × (size_or_index_in w ≡ length text) × (left ≡ pasted out 0 text)

-- ---- the vote

pub record OutsideVote : Type 0 where
  -- a text that was sent, with at each bit two bursts that have it right, is what same_vote gives
  pub consequence : (h a b c out : List ℕ) (r : SameVoted) (left : List ℕ) → OfBytes h a b c → Sent h a b c (length out) → SameVotePromise a b c out r left
      → (number_in r.answer ≡ 0) × (size_or_index_in r.answer ≡ length h) × (left ≡ pasted out 0 h)
  -- same_strip is always granted, and says how many bytes are dropped, at most 16
  pub strip : (burst : List ℕ) (x : ℕ) → SameStripPromise burst x → (number_in x ≡ 0) × (size_or_index_in x ≡ lead burst) × (size_or_index_in x ≤ 16)
  -- granted or refused, the three numbers are those that it says of the bursts, each at most 16
  pub carries : (a b c out : List ℕ) (r : SameVoted) (left : List ℕ) (x y z : ℕ) → SameVotePromise a b c out r left
      → SameStripPromise a x → SameStripPromise b y → SameStripPromise c z
      → (r.first ≡ size_or_index_in x) × (r.second ≡ size_or_index_in y) × (r.third ≡ size_or_index_in z) × (r.first ≤ 16) × (r.second ≤ 16) × (r.third ≤ 16)

pub record OutsideDemands : Type 0 where
  pub history : OutsideHistory
  pub reports : OutsideReports
  pub texts : OutsideTexts
  pub vote : OutsideVote
