-- What the private functions of a report do.
use Rattle.std.specs.Prelude.{ℕ, ◌+◌, ◌*◌, ◌≤◌, Bool, true, ◌&&◌, List, [], ◌∷◌, map, ◌≡◌, length, get_or, ltb, eqb, Result}
use Rattle.laws.specs.Order.{Said, granted, refused, ◌when◌, choose, in_order}
use Rattle.laws.specs.Lists.{every, table, keep}
use Rattle.laws.specs.Space.{pasted, leaves}
use Rattle.header.specs.Header.{Alert}
use Rattle.header.specs.Answers.{alert_in}
use Rattle.header.specs.declared.Fields.{Fields}
use Rattle.header.specs.Header.{is_issue, is_duration}
use Rattle.clock.specs.declared.Clock.{Clock}
use Rattle.clock.specs.declared.Times.{Times}
use Rattle.event.specs.Events.{is_listed}
use Rattle.event.specs.Class.{class_of}
use Rattle.event.specs.declared.ListedClass.{ListedClass}
use Rattle.book_rules.specs.Form.{form}
use Rattle.place.specs.Packed.{packed, packed_match_some}
use Rattle.book_rules.specs.Rules.{Rec, recs}
use Rattle.book_rules.specs.Subscription.{Sub}
use Rattle.book_rules.specs.Afresh.{sub_of}
use Rattle.report.specs.Hits.{has_class, pairs}
use Rattle.report.specs.Report.{Full, alert_says, room_rows}
use Rattle.report.specs.Answers.{answer_says}
use Rattle.report.specs.Promise.{writes_hits}
use Rattle.report.specs.declared.Summary.{Summary}
use Rattle.refusals.specs.Refusals.{said}
use Rattle.refusals.specs.declared.Refusal.{Refusal}

-- a record of two words
abbrev pub rec : ℕ → ℕ → Rec
rec first second = record { first = first; second = second }

-- a record that the code takes for one that matches: by its words, and by places that are packed
unfoldable pub record_matches : ℕ → List ℕ → Rec → Bool
record_matches class sent r = packed_match_some (packed r.first) sent && has_class (form.wish r.second) class

-- and for a hit: it is this client's too
unfoldable pub found : ℕ → ℕ → List ℕ → Rec → Bool
found client class sent r = eqb (form.who r.second) client && record_matches class sent r

-- the subscriptions of those records of a book that pass a test
unfoldable pub hit_subs : (Rec → Bool) → List ℕ → List Sub
hit_subs test w = map (sub_of form) (keep test (recs w))

-- the words of a record
abbrev pub pair : Rec → List ℕ
pair r = pairs (sub_of form r ∷ [])

-- records as pairs of words
abbrev pub rec_of : List ℕ → Rec
rec_of r = rec (get_or r 0 0) (get_or r 1 0)

unfoldable pub recs_in : List (List ℕ) → List Rec
recs_in rs = table (length rs) (λ i. rec_of (get_or rs i []))

-- the words of those among some records that pass a test
unfoldable pub hit_words : (Rec → Bool) → List Rec → List ℕ
hit_words test records = pairs (map (sub_of form) (keep test records))

-- s was written at index `at` of d, which then holds d'; r is the index after it
pub record WroteHits (d : List ℕ) (at : ℕ) (s d' : List ℕ) (r : ℕ) : Type 0 where
  pub space : d' ≡ pasted d at s
  pub next : r ≡ at + length s

-- the hits that were written: how many; or too little room, and nothing is written
pub record ListsHits (hits : List Sub) (out : List ℕ) (r : Result ℕ Refusal) (left : List ℕ) : Type 0 where
  pub says : said r ≡ in_order (refused 13 when ltb (length out) (2 * length hits) ∷ []) (granted (length hits))
  pub lent : left ≡ choose (ltb (length out) (2 * length hits)) out (pasted out 0 (pairs hits))

abbrev pub listed_class_of : List ℕ → ListedClass
listed_class_of e = record { listed = is_listed e; class = class_of e }

-- once the times are known: 13, or the summary
unfoldable pub timed_says : Times → ℕ → Alert → List Sub → Said Full
timed_says times room a hits =
    in_order (room_rows room hits)
    (granted (record {
      summary = record { times = times; event = a.event; listed = is_listed a.event; class = class_of a.event; hits = length hits };
      hits = hits;
    }))

pub record TimedReport (times : Times) (a : Alert) (hits : List Sub) (out : List ℕ) (r : Result Summary Refusal) (left : List ℕ) : Type 0 where
  pub says : said r ≡ answer_says (timed_says times (length out) a hits)
  pub lent : left ≡ leaves writes_hits (timed_says times (length out) a hits) out

-- fields that were read: so many places as are counted, each of six digits
pub record PlacesRead (f : Fields) : Type 0 where
  pub few : f.count ≤ length f.places
  pub codes : every (λ p. ltb p 1000000) (alert_in f).places ≡ true

-- and an issue and a duration that a text can say
pub record Readable (f : Fields) : Type 0 where
  pub places : PlacesRead f
  pub issue : is_issue f.day f.hour f.minute ≡ true
  pub lasts : is_duration f.duration ≡ true

-- a report on an alert that was read
pub record AlertReport (at : Clock) (a : Alert) (hits : List Sub) (out : List ℕ) (r : Result Summary Refusal) (left : List ℕ) : Type 0 where
  pub says : said r ≡ answer_says (alert_says at (length out) a hits)
  pub lent : left ≡ leaves writes_hits (alert_says at (length out) a hits) out
