-- Paper 01, "Clock and lifetime": the clock, and the days of a year.
use Rattle.std.specs.Prelude.{ℕ, ◌%◌, Bool, ◌&&◌, eqb, leb}
use Rattle.laws.specs.Order.{choose}
use Rattle.laws.specs.Numbers.{within}
use Rattle.clock.specs.declared.Clock.{Clock}

-- leap years are those divisible by 4
abbrev pub leap : ℕ → Bool
leap year = eqb (year % 4) 0

-- the days of a year, and whether a day exists in it
abbrev pub days_in : ℕ → ℕ
days_in year = choose (leap year) 366 365

unfoldable pub has_day : ℕ → ℕ → Bool
has_day year day = within 1 (days_in year) day

-- year 1996 to 2099, day, hour, minute; the day must exist in the year
unfoldable pub is_clock : Clock → Bool
is_clock c =
    within 1996 2099 c.year
    && (has_day c.year c.day
    && (leb c.hour 23
    && leb c.minute 59))
