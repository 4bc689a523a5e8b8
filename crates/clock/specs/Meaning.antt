-- What the theorems on clocks speak of: times that there are, stamps that can be printed, and when a phase holds.
use Rattle.std.specs.Prelude.{ℕ, ◌+◌, ◌≤◌, ◌<◌, true, ◌≡◌}
use Rattle.clock.specs.Clock.{has_day}
use Rattle.clock.specs.declared.Clock.{Clock}
use Rattle.clock.specs.declared.Stamp.{Stamp}
use Rattle.clock.specs.declared.Phase.{Phase}
use Rattle.clock.specs.declared.Phase.TheVariants.{Early, Live, Expired}

-- a day that exists in its year, hour 0 to 23, minute 0 to 59
pub record Exists (t : Clock) : Type 0 where
  pub day : has_day t.year t.day ≡ true
  pub hour : t.hour ≤ 23
  pub minute : t.minute ≤ 59

-- month 1 to 12, day 1 to 31, hour 0 to 23, minute 0 to 59
pub record Printable (s : Stamp) : Type 0 where
  pub months : (1 ≤ s.month) × (s.month ≤ 12)
  pub days : (1 ≤ s.day) × (s.day ≤ 31)
  pub hour : s.hour ≤ 23
  pub minute : s.minute ≤ 59

-- a phase, by its condition on the moments of issue and of now, and the duration
abbrev pub Holds : ℕ → ℕ → ℕ → Phase → Type 0
Holds issue duration at Early = at + 5 < issue
Holds issue duration at Live = (issue ≤ at + 5) × (at < issue + duration)
Holds issue duration at Expired = issue + duration ≤ at
