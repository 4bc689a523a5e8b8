-- The end of a header is its issue plus its duration as a moment, also over New Year; and a moment is that of one time only.
use mathlib.Core.Path.{◌≡◌, ap, ◌∙◌}
use mathlib.Core.Logic.{⊎_elim}
use Prim.Native.Nat.{ℕ, zero, suc, ◌+◌, ◌/◌, ◌≤◌, ◌<◌}
use native.Mathlib.Omega.{arith}
use Rattle.laws.proofs.Tests.{le_or_lt}
use Rattle.clock.specs.Clock.{days_in, has_day}
use Rattle.clock.specs.Lifetime.{stamp_of, times_of, year_of, minute_of, days_before, moment_of, time_in, issue_of, until_of}
use Rattle.clock.specs.Steps.{OfYear, Fit}
use Rattle.clock.specs.Meaning.{Exists, Printable}
use Rattle.clock.specs.declared.Clock.{Clock}
use Rattle.header.proofs.Callers.{duration_bounds}
use Rattle.clock.proofs.Ranges.{has_day_low, has_day_high, issue_of_year}
use Rattle.clock.specs.Calendar.{date_of}
use Rattle.laws.proofs.Tests.{within_lo, within_hi}
use Rattle.clock.proofs.Dates.{date_range}
use Rattle.clock.proofs.Moments.{this_year, next_year, time_exists, time_moment}

pub until_moment : (at : Clock) (day hour minute duration : ℕ)
    → moment_of (until_of at day hour minute duration) ≡ moment_of (issue_of at day hour minute) + duration
until_moment at day hour minute duration =
    time_moment (year_of at day hour minute) (minute_of day hour minute + duration) ∙ omega arith

-- ---- both are times that there are

time_is : (year minutes : ℕ) → minutes / 1440 < days_in year + 365 → Exists (time_in year minutes)
time_is year minutes h =
    ⊎_elim (λ l. is _ (next_year year minutes l) (omega arith) (omega arith))
    (λ l. is _ (this_year year minutes l) (omega arith) (omega arith))
    (le_or_lt (days_in year) (minutes / 1440 + 1))
  where
    is : (t : Clock) → t ≡ time_in year minutes → t.hour ≤ 23 → t.minute ≤ 59 → Exists (time_in year minutes)
    is t e p q =
        rw (← e) (record { day = ap (λ (u : Clock). has_day u.year u.day) e ∙ time_exists year minutes h; hour = p; minute = q })

pub issue_exists : (at : Clock) (day hour minute duration : ℕ) → Fit at day hour minute duration → Exists (issue_of at day hour minute)
issue_exists at day hour minute duration f =
    let o : OfYear day hour minute = issue_of_year day hour minute f.issue in
    record { day = f.exists; hour = o.hours; minute = o.minutes }

pub until_exists : (at : Clock) (day hour minute duration : ℕ) → Fit at day hour minute duration → Exists (until_of at day hour minute duration)
until_exists at day hour minute duration f =
    let year : ℕ = year_of at day hour minute in
    let o : OfYear day hour minute = issue_of_year day hour minute f.issue in
    let h : day ≤ days_in year = has_day_high year day f.exists in
    time_is year (minute_of day hour minute + duration)
    (omega (arith, o.counted, o.hours, o.minutes, duration_bounds duration f.lasts))

-- ---- one time only

later_year : (a b : ℕ) → a < b → days_before a + days_in a ≤ days_before b
unfolding days_before
later_year a zero h = absurd (omega arith)
later_year a (suc b) h =
    ⊎_elim (λ (l : a < b). let k : days_before a + days_in a ≤ days_before b = later_year a b l in omega arith)
    (λ (l : b ≤ a). let e : a ≡ b = omega arith in rw e (omega arith))
    (le_or_lt a b)

before : (t u : Clock) → Exists t → Exists u → t.year < u.year → moment_of t < moment_of u
before t u p q l =
    let y : days_before t.year + days_in t.year ≤ days_before u.year = later_year t.year u.year l in
    let h : t.day ≤ days_in t.year = has_day_high t.year t.day p.day in
    let k : 1 ≤ t.day = has_day_low t.year t.day p.day in
    omega (arith, p.hour, p.minute)

same_year : (t u : Clock) → Exists t → Exists u → moment_of t ≡ moment_of u → t.year ≡ u.year
same_year t u p q e =
    ⊎_elim (λ l. absurd (omega (arith, before t u p q l)))
    (λ l. ⊎_elim (λ k. absurd (omega (arith, before u t q p k))) (λ k. omega arith) (le_or_lt u.year t.year))
    (le_or_lt t.year u.year)

pub one_time : (t u : Clock) → Exists t → Exists u → moment_of t ≡ moment_of u → t ≡ u
one_time t u p q e =
    let y : t.year ≡ u.year = same_year t u p q e in
    let b : days_before t.year ≡ days_before u.year = ap days_before y in
    let m : minute_of t.day t.hour t.minute ≡ minute_of u.day u.hour u.minute = omega arith in
    let k : 1 ≤ t.day = has_day_low t.year t.day p.day in
    let l : 1 ≤ u.day = has_day_low u.year u.day q.day in
    let d : t.day ≡ u.day = omega (arith, p.hour, p.minute, q.hour, q.minute) in
    let h : t.hour ≡ u.hour = omega (arith, p.hour, p.minute, q.hour, q.minute) in
    let n : t.minute ≡ u.minute = omega (arith, p.hour, p.minute, q.hour, q.minute) in
    λ i. record { year = y i; day = d i; hour = h i; minute = n i }

-- ---- and what is printed of them is a month, a day, an hour and a minute

stamp_range : (t : Clock) → Exists t → Printable (stamp_of t)
stamp_range t e =
    let d = date_range t.year t.day e.day in
    let x : ℕ = (date_of t.year t.day).month in
    let y : ℕ = (date_of t.year t.day).day in
    record {
      months = (within_lo 1 12 x d.0, within_hi 1 12 x d.0);
      days = (within_lo 1 31 y d.1, within_hi 1 31 y d.1);
      hour = e.hour;
      minute = e.minute;
    }

module _ (at : Clock) (day hour minute duration : ℕ) (f : Fit at day hour minute duration) where
  pub issued_range : Printable (times_of at day hour minute duration).issued
  unfolding times_of
  issued_range = stamp_range (issue_of at day hour minute) (issue_exists at day hour minute duration f)

  pub until_range : Printable (times_of at day hour minute duration).until
  unfolding times_of
  until_range = stamp_range (until_of at day hour minute duration) (until_exists at day hour minute duration f)
