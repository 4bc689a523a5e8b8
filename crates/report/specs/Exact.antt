-- Demand 3: a client's report lists exactly that client's matching subscriptions, each once, in place order.
use Rattle.std.specs.Prelude.{ℕ, ◌<◌, Bool, List, [], ◌∷◌, ◌≡◌, length}
use Rattle.laws.specs.Order.{Said, granted, choose}
use Rattle.laws.specs.Lists.{tally}
use Rattle.laws.specs.Space.{pasted, leaves}
use Rattle.place.specs.FirstWord.{first_word}
use Rattle.event.specs.Class.{class_of}
use Rattle.header.specs.Header.{Alert}
use Rattle.clock.specs.declared.Clock.{Clock}
use Rattle.book_rules.specs.Subscription.{Sub, how_often}
use Rattle.report.specs.Hits.{is_hit, pairs}
use Rattle.report.specs.Report.{Full, summary_of}
use Rattle.report.specs.Promise.{writes_hits}

-- in order of state, county, part, each place once: the first words rise from above k
abbrev pub After : ℕ → List Sub → Type 0
After k [] = Unit
After k (x ∷ list) = (k < first_word x.place) × After (first_word x.place) list

-- it is this client's and matches the alert
abbrev pub wanted : ℕ → Alert → Sub → Bool
wanted client a = is_hit client (class_of a.event) a.places

-- of what stands, the report says and writes the wanted, each as often as it stands and nothing else, in place order, and how
-- many they are
pub record Lists (standing : List Sub) (client : ℕ) (a : Alert) (at : Clock) (out : List ℕ) (said : Said Full) : Type 0 where
  pub hits : List Sub
  pub exactly : (x : Sub) → how_often x hits ≡ choose (wanted client a x) (how_often x standing) 0
  pub order : After 0 hits
  pub count : length hits ≡ tally (wanted client a) standing
  pub says : said ≡ granted (record { summary = summary_of at a hits; hits = hits })
  pub leaves_pairs : leaves writes_hits said out ≡ pasted out 0 (pairs hits)
