-- Demand 3: two lists of what stands that agree on the subscriptions that pass a test, whatever else stands in either.
use Rattle.std.specs.Prelude.{ℕ, Bool, true, List, ◌≡◌}
use Rattle.book_rules.specs.Subscription.{Sub, how_often}
use Rattle.report.specs.Hits.{is_of}

-- each subscription that passes the test stands as often in one as in the other
abbrev pub Agree : (Sub → Bool) → List Sub → List Sub → Type 0
Agree own s t = (x : Sub) → own x ≡ true → how_often x s ≡ how_often x t

-- every subscription of this client passes the test
abbrev pub Covers : (Sub → Bool) → ℕ → Type 0
Covers own client = (x : Sub) → is_of client x ≡ true → own x ≡ true
