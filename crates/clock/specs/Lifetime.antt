-- Paper 01, "Clock and lifetime": the year of a header, moments, the lifetime, and the dates of issue and end.
use Rattle.std.specs.Prelude.{ℕ, zero, suc, ◌+◌, ◌-◌, ◌*◌, ◌/◌, ◌%◌, Bool, [], ◌∷◌, ltb, leb}
use Rattle.laws.specs.Order.{◌when◌, in_order, choose}
use Rattle.clock.specs.Clock.{days_in}
use Rattle.clock.specs.Calendar.{date_of}
use Rattle.clock.specs.declared.Clock.{Clock}
use Rattle.clock.specs.declared.Stamp.{Stamp}
use Rattle.clock.specs.declared.Phase.{Phase}
use Rattle.clock.specs.declared.Phase.TheVariants.{Early, Live, Expired}
use Rattle.clock.specs.declared.Times.{Times}

-- the year that a header is taken to be of, by the clock and its issue: the clock's
unfoldable pub year_of : Clock → ℕ → ℕ → ℕ → ℕ
year_of at day hour minute = at.year

-- minutes count from the start of a year
abbrev pub minute_of : ℕ → ℕ → ℕ → ℕ
minute_of day hour minute = (day - 1) * 1440 + (hour * 60 + minute)

-- a moment is the days before its year, and the minutes from its start: so moments of two years compare
unfoldable pub days_before : ℕ → ℕ
days_before zero = 0
days_before (suc year) = days_before year + days_in year

abbrev pub moment_in : ℕ → ℕ → ℕ
moment_in year minutes = days_before year * 1440 + minutes

abbrev pub moment_of : Clock → ℕ
moment_of t = moment_in t.year (minute_of t.day t.hour t.minute)

-- early: issue is later than now + 5; expired: now is at or past issue + duration; otherwise live
abbrev pub early : ℕ → ℕ → Bool
early issue at = ltb (at + 5) issue

abbrev pub expired : ℕ → ℕ → ℕ → Bool
expired issue duration at = leb (issue + duration) at

unfoldable pub phase_of : ℕ → ℕ → ℕ → Phase
phase_of issue duration at =
    in_order
    (
    Early when early issue at
    ∷ Expired when expired issue duration at
    ∷ []
    )
    Live

-- day, hour and minute of the minutes from the start of a year: they may fall in the following year
unfoldable pub time_in : ℕ → ℕ → Clock
time_in year minutes =
    let day : ℕ = minutes / 1440 + 1 in
    choose (ltb (days_in year) day)
    (record { year = year + 1; day = day - days_in year; hour = minutes / 60 % 24; minute = minutes % 60 })
    (record { year = year; day = day; hour = minutes / 60 % 24; minute = minutes % 60 })

-- month and day, hour and minute
abbrev pub stamp_of : Clock → Stamp
stamp_of t = record {
  month = (date_of t.year t.day).month;
  day = (date_of t.year t.day).day;
  hour = t.hour;
  minute = t.minute;
}

-- a header's issue, its end, and its phase, all of the header's year
abbrev pub issue_of : Clock → ℕ → ℕ → ℕ → Clock
issue_of at day hour minute = record { year = year_of at day hour minute; day = day; hour = hour; minute = minute }

abbrev pub until_of : Clock → ℕ → ℕ → ℕ → ℕ → Clock
until_of at day hour minute duration = time_in (year_of at day hour minute) (minute_of day hour minute + duration)

unfoldable pub lifetime_of : Clock → ℕ → ℕ → ℕ → ℕ → Phase
lifetime_of at day hour minute duration = phase_of (moment_of (issue_of at day hour minute)) duration (moment_of at)

unfoldable pub times_of : Clock → ℕ → ℕ → ℕ → ℕ → Times
times_of at day hour minute duration = record {
  issued = stamp_of (issue_of at day hour minute);
  until = stamp_of (until_of at day hour minute duration);
  phase = lifetime_of at day hour minute duration;
}
