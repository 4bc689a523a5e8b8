-- Paper 01, "Numbers and what they leave": the report, 16, 17, the header's, 15, 14, 13.
use Rattle.std.specs.Prelude.{ℕ, ◌*◌, List, [], ◌∷◌, ◌++◌, length, ltb}
use Rattle.laws.specs.Order.{Said, granted, refused, Row, ◌when◌, in_order, next}
use Rattle.header.specs.Header.{Alert}
use Rattle.header.specs.Reading.{read_says}
use Rattle.event.specs.Events.{is_listed}
use Rattle.event.specs.Class.{class_of}
use Rattle.clock.specs.Answers.{bad_clock, no_day}
use Rattle.clock.specs.Lifetime.{year_of, times_of}
use Rattle.clock.specs.declared.Clock.{Clock}
use Rattle.book_rules.specs.Form.{form}
use Rattle.book_rules.specs.Edits.{book_row, client_row}
use Rattle.book_rules.specs.Subscription.{Sub}
use Rattle.book_rules.specs.Afresh.{subs}
use Rattle.report.specs.declared.Summary.{Summary}
use Rattle.report.specs.Hits.{hits_of}

-- what a granted report says of an alert with these hits: date and time of issue and of the end, and the state; event, whether
-- listed, class; number of hits
unfoldable pub summary_of : Clock → Alert → List Sub → Summary
summary_of at a hits = record {
  times = times_of at a.day a.hour a.minute a.minutes;
  event = a.event;
  listed = is_listed a.event;
  class = class_of a.event;
  hits = length hits;
}

-- a summary, and the hits
pub record Full : Type 0 where
  pub summary : Summary
  pub hits : List Sub

-- clock out of range; day 366 missing; lent space smaller than the result
abbrev pub times_rows : Clock → Alert → List (Row (Said Full))
times_rows at a =
    bad_clock at
    ∷ no_day (year_of at a.day a.hour a.minute) a.day
    ∷ []

abbrev pub room_rows : ℕ → List Sub → List (Row (Said Full))
room_rows room hits = refused 13 when ltb room (2 * length hits) ∷ []

-- of an alert that was read, and its hits
unfoldable pub alert_says : Clock → ℕ → Alert → List Sub → Said Full
alert_says at room a hits = in_order (times_rows at a ++ room_rows room hits) (granted (record { summary = summary_of at a hits; hits = hits }))

-- of some subscriptions, whatever book they stand in
unfoldable pub list_says : List Sub → ℕ → List ℕ → Clock → ℕ → Said Full
list_says list client text at room =
    in_order (client_row client) (next (read_says text) (λ a. alert_says at room a (hits_of client a list)))

-- of a book: it is checked first
unfoldable pub report_says : List ℕ → ℕ → List ℕ → Clock → ℕ → Said Full
report_says book client text at room = in_order (book_row form book) (list_says (subs form book) client text at room)
