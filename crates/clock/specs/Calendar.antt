-- Paper 01, "Clock and lifetime": the calendar table, and the month and day of a day of a year.
use Rattle.std.specs.Prelude.{ℕ, ◌+◌, ◌-◌, ◌*◌, ◌/◌, ◌%◌, ◌&&◌, not, List, [], ◌∷◌, ltb, leb}
use Rattle.laws.specs.Order.{choose}
use Rattle.clock.specs.Clock.{leap}
use Rattle.clock.specs.declared.MonthDay.{MonthDay}

-- the lengths of the months, by that of February; of the months of a year
abbrev pub months : ℕ → List ℕ
months february = 31 ∷ february ∷ 31 ∷ 30 ∷ 31 ∷ 30 ∷ 31 ∷ 31 ∷ 30 ∷ 31 ∷ 30 ∷ 31 ∷ []

abbrev pub months_of : ℕ → List ℕ
months_of year = months (choose (leap year) 29 28)

-- month × 32 + day of the i-th day, counted from 0, of months of these lengths, the first of which is month m
unfoldable pub dated : List ℕ → ℕ → ℕ → ℕ
dated [] m i = 0
dated (n ∷ ns) m i = choose (ltb i n) (m * 32 + (i + 1)) (dated ns (m + 1) (i - n))

-- entry i, counted from 0, of the calendar table: for a leap year
abbrev pub calendar : ℕ → ℕ
calendar i = dated (months 29) 1 i

-- the entry of a day, counted from 1: in years that are no leap years day 60 and later use the next
abbrev pub entry_of : ℕ → ℕ → ℕ
entry_of year day = choose (not (leap year) && leb 60 day) day (day - 1)

-- month and day of an entry; of a day of a year
abbrev pub split : ℕ → MonthDay
split x = record { month = x / 32; day = x % 32 }

unfoldable pub date_of : ℕ → ℕ → MonthDay
date_of year day = split (calendar (entry_of year day))
