-- Paper 01, "Numbers and what they leave": what each call on clocks says.
use Rattle.std.specs.Prelude.{ℕ, not, [], ◌∷◌}
use Rattle.laws.specs.Order.{Said, granted, refused, Row, ◌when◌, in_order, next}
use Rattle.clock.specs.Clock.{has_day, is_clock}
use Rattle.clock.specs.Calendar.{date_of}
use Rattle.header.specs.Header.{is_issue, is_duration}
use Rattle.clock.specs.Lifetime.{year_of, lifetime_of, times_of}
use Rattle.clock.specs.declared.Clock.{Clock}
use Rattle.clock.specs.declared.MonthDay.{MonthDay}
use Rattle.clock.specs.declared.Phase.{Phase}
use Rattle.clock.specs.declared.Times.{Times}

-- rows that several calls share: a clock out of range; a year that lacks the day
abbrev pub bad_clock : {A : Type 0} → Clock → Row (Said A)
bad_clock at = refused 15 when not (is_clock at)

abbrev pub no_day : {A : Type 0} → ℕ → ℕ → Row (Said A)
no_day year day = refused 14 when not (has_day year day)

unfoldable pub clock_says : Clock → Said (Unit {0})
clock_says at = in_order (bad_clock at ∷ []) (granted tt)

unfoldable pub date_says : ℕ → ℕ → Said MonthDay
date_says year day = in_order (no_day year day ∷ []) (granted (date_of year day))

-- what is asked of a header's fields at a clock (house: in this order)
unfoldable pub asked : Clock → ℕ → ℕ → ℕ → ℕ → Said (Unit {0})
asked at day hour minute duration =
    in_order
    (
    bad_clock at
    ∷ refused 9 when not (is_duration duration)
    ∷ refused 10 when not (is_issue day hour minute)
    ∷ no_day (year_of at day hour minute) day
    ∷ []
    )
    (granted tt)

unfoldable pub lifetime_says : Clock → ℕ → ℕ → ℕ → ℕ → Said Phase
lifetime_says at day hour minute duration =
    next (asked at day hour minute duration) (λ u. granted (lifetime_of at day hour minute duration))

unfoldable pub times_says : Clock → ℕ → ℕ → ℕ → ℕ → Said Times
times_says at day hour minute duration =
    next (asked at day hour minute duration) (λ u. granted (times_of at day hour minute duration))
