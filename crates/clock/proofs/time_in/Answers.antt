-- More days than the year has fall in the following year: the one test says which.
use mathlib.Core.Path.{◌≡◌}
use Prim.Native.Nat.{ℕ, ◌+◌, ◌-◌, ◌/◌, ◌%◌, ◌<◌}
use native.Mathlib.Omega.{arith}
use Rattle.clock.specs.Clock.{days_in}
use Rattle.clock.specs.Lifetime.{time_in}
use Rattle.clock.proofs.Moments.{this_year, next_year}
use Rattle.clock.proofs.time_in.Goals as goal

-- in the following year, the days of this one are taken off
over : (year minutes days : ℕ) → days ≡ days_in year → days < minutes / 1440 + 1
    → record { year = year + 1; day = minutes / 1440 + 1 - days; hour = minutes / 60 % 24; minute = minutes % 60 } ≡ time_in year minutes
over year minutes days e h = rw e (next_year year minutes (omega arith))

pub returns-then-days-day : goal.returns-then-days-day
returns-then-days-day c =
    let a = c.args in
    over a.year a.minutes c.days_in-days.result c.days_in-days.ensures (omega arith)

pub returns : goal.returns
returns c =
    let a = c.args in
    let e : c.days_in-days.result ≡ days_in a.year = c.days_in-days.ensures in
    this_year a.year a.minutes (omega arith)
