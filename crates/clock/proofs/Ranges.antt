-- A test of a day, a clock or an issue that holds gives its bounds as numbers.
use mathlib.Core.Path.{◌≡◌}
use mathlib.Core.Bool.{Bool, true, false, ◌&&◌}
use Prim.Native.Nat.{ℕ, ◌≤◌}
use native.Mathlib.Omega.{arith}
use lib.Dec.{leb}
use borrow.Author.Tests.{leb-true}
use Rattle.laws.specs.Numbers.{within}
use Rattle.laws.specs.Order.{choose}
use Rattle.laws.proofs.Tests.{and_l, and_r, within_lo, within_hi, within_i}
use Rattle.clock.specs.Clock.{leap, days_in, has_day, is_clock}
use Rattle.header.specs.Header.{is_issue}
use Rattle.header.proofs.Allowed.{issued}
use Rattle.clock.specs.Steps.{OfYear}
use Rattle.clock.specs.declared.Clock.{Clock}

pub days_low : (year : ℕ) → 365 ≤ days_in year
days_low year = by (leap year)
  where
    by : (b : Bool) → 365 ≤ choose b 366 365
    by true = omega arith
    by false = omega arith

pub days_high : (year : ℕ) → days_in year ≤ 366
days_high year = by (leap year)
  where
    by : (b : Bool) → choose b 366 365 ≤ 366
    by true = omega arith
    by false = omega arith

pub has_day_low : (year day : ℕ) → has_day year day ≡ true → 1 ≤ day
unfolding has_day
has_day_low year day h = within_lo 1 (days_in year) day h

pub has_day_high : (year day : ℕ) → has_day year day ≡ true → day ≤ days_in year
unfolding has_day
has_day_high year day h = within_hi 1 (days_in year) day h

pub has_day_within : (year day : ℕ) → 1 ≤ day → day ≤ days_in year → has_day year day ≡ true
unfolding has_day
has_day_within year day a b = within_i 1 (days_in year) day a b

-- ---- a clock

module _ (at : Clock) (h : is_clock at ≡ true) where
  in_years : within 1996 2099 at.year ≡ true
  unfolding is_clock
  in_years = and_l (within 1996 2099 at.year) (has_day at.year at.day && (leb at.hour 23 && leb at.minute 59)) h

  rest : has_day at.year at.day && (leb at.hour 23 && leb at.minute 59) ≡ true
  unfolding is_clock
  rest = and_r (within 1996 2099 at.year) (has_day at.year at.day && (leb at.hour 23 && leb at.minute 59)) h

  times : leb at.hour 23 && leb at.minute 59 ≡ true
  times = and_r (has_day at.year at.day) (leb at.hour 23 && leb at.minute 59) rest

  pub clock_year : at.year ≤ 2099
  clock_year = within_hi 1996 2099 at.year in_years

  pub clock_from : 1996 ≤ at.year
  clock_from = within_lo 1996 2099 at.year in_years

  pub clock_day : has_day at.year at.day ≡ true
  clock_day = and_l (has_day at.year at.day) (leb at.hour 23 && leb at.minute 59) rest

  pub clock_of_year : OfYear at.day at.hour at.minute
  clock_of_year =
      let high : at.day ≤ days_in at.year = has_day_high at.year at.day clock_day in
      record {
        counted = has_day_low at.year at.day clock_day;
        days = omega (arith, days_high at.year);
        hours = leb-true at.hour 23 (and_l (leb at.hour 23) (leb at.minute 59) times);
        minutes = leb-true at.minute 59 (and_r (leb at.hour 23) (leb at.minute 59) times);
      }

-- ---- an issue

pub issue_of_year : (day hour minute : ℕ) → is_issue day hour minute ≡ true → OfYear day hour minute
issue_of_year day hour minute h =
    let k = issued day hour minute h in
    record { counted = k.first; days = k.last; hours = k.hour; minutes = k.minute }
