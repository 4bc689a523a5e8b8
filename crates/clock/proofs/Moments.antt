-- The start from which moments count does not matter to the phase, so minutes of the header's year do; days past that year are the next one's.
use mathlib.Core.Path.{◌≡◌, refl, sym, ◌∙◌}
use mathlib.Core.Logic.{⊎_elim}
use mathlib.Core.Bool.{true}
use Prim.Native.Nat.{ℕ, ◌+◌, ◌-◌, ◌*◌, ◌/◌, ◌%◌, ◌≤◌, ◌<◌}
use native.Mathlib.Numerals.{add-one}
use native.Mathlib.Omega.{arith}
use borrow.Author.Tests.{lt-ltb, le-ltb, le-leb, lt-leb}
use Rattle.laws.proofs.Tests.{le_or_lt}
use Rattle.clock.specs.Clock.{days_in, has_day}
use Rattle.clock.specs.Lifetime.{year_of, minute_of, days_before, moment_in, moment_of, phase_of, time_in, lifetime_of}
use Rattle.clock.specs.declared.Clock.{Clock}
use Rattle.clock.specs.declared.Phase.TheVariants.{Early, Live, Expired}
use Rattle.clock.proofs.Ranges.{days_low, has_day_within}

-- ---- the phase

-- by its condition
pub is_early : (issue duration at : ℕ) → at + 5 < issue → phase_of issue duration at ≡ Early
unfolding phase_of
is_early issue duration at h = rw (lt-ltb (at + 5) issue h)

pub is_expired : (issue duration at : ℕ) → issue + duration ≤ at → phase_of issue duration at ≡ Expired
unfolding phase_of
is_expired issue duration at h = rw (le-ltb (at + 5) issue (omega arith), le-leb (issue + duration) at h)

pub is_live : (issue duration at : ℕ) → issue ≤ at + 5 → at < issue + duration → phase_of issue duration at ≡ Live
unfolding phase_of
is_live issue duration at h k = rw (le-ltb (at + 5) issue h, lt-leb (issue + duration) at k)

-- the start from which moments count does not matter
pub any_start : (k issue duration at : ℕ) → phase_of (k + issue) duration (k + at) ≡ phase_of issue duration at
any_start k issue duration at =
    ⊎_elim (λ h. is_early (k + issue) duration (k + at) (omega arith) ∙ sym (is_early issue duration at h))
    (λ h.
    ⊎_elim (λ l. is_live (k + issue) duration (k + at) (omega arith) (omega arith) ∙ sym (is_live issue duration at h l))
    (λ l. is_expired (k + issue) duration (k + at) (omega arith) ∙ sym (is_expired issue duration at l))
    (le_or_lt at (issue + duration)))
    (le_or_lt (at + 5) issue)

-- ---- the header's year

pub year_is : (at : Clock) (day hour minute : ℕ) → year_of at day hour minute ≡ at.year
unfolding year_of
year_is at day hour minute = refl

-- minutes count from the start of that year
pub in_that_year : (at : Clock) (day hour minute duration : ℕ)
    → phase_of (minute_of day hour minute) duration (minute_of at.day at.hour at.minute) ≡ lifetime_of at day hour minute duration
unfolding lifetime_of
in_that_year at day hour minute duration =
    rw (year_is at day hour minute)
    (sym (any_start (days_before at.year * 1440) (minute_of day hour minute) duration (minute_of at.day at.hour at.minute)))

-- ---- the time that minutes from the start of a year say

module _ (year minutes : ℕ) where
  pub this_year : minutes / 1440 + 1 ≤ days_in year
      → record { year = year; day = minutes / 1440 + 1; hour = minutes / 60 % 24; minute = minutes % 60 } ≡ time_in year minutes
  unfolding time_in
  this_year h = rw (le-ltb (days_in year) (minutes / 1440 + 1) h)

  pub next_year : days_in year < minutes / 1440 + 1
      → record { year = year + 1; day = minutes / 1440 + 1 - days_in year; hour = minutes / 60 % 24; minute = minutes % 60 } ≡ time_in year minutes
  unfolding time_in
  next_year h = rw (lt-ltb (days_in year) (minutes / 1440 + 1) h)

  -- a day that its year has, an hour and a minute, as long as the following year has it
  pub time_exists : minutes / 1440 < days_in year + 365 → has_day (time_in year minutes).year (time_in year minutes).day ≡ true
  time_exists h =
      ⊎_elim (λ l. rw (← next_year l) (has_day_within (year + 1) (minutes / 1440 + 1 - days_in year) (omega arith) (omega (arith, days_low (year + 1)))))
      (λ l. rw (← this_year l) (has_day_within year (minutes / 1440 + 1) (omega arith) l))
      (le_or_lt (days_in year) (minutes / 1440 + 1))

  -- and that moment
  pub time_moment : moment_of (time_in year minutes) ≡ moment_in year minutes
  unfolding days_before
  time_moment =
      ⊎_elim (λ l. rw (← next_year l, add-one year) (omega arith))
      (λ l. rw (← this_year l) (omega arith))
      (le_or_lt (days_in year) (minutes / 1440 + 1))
