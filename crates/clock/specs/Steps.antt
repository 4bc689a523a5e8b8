-- Steps of the code: what is known once nothing was refused.
use Rattle.std.specs.Prelude.{ℕ, ◌≤◌, ◌<◌, true, ◌≡◌, Result, MatchResult}
use Rattle.refusals.specs.Refusals.{says}
use Rattle.refusals.specs.declared.Refusal.{Refusal}
use Rattle.clock.specs.Answers.{asked}
use Rattle.clock.specs.Clock.{has_day, is_clock}
use Rattle.header.specs.Header.{is_issue, is_duration}
use Rattle.clock.specs.Lifetime.{year_of, minute_of, issue_of}
use Rattle.clock.specs.declared.Clock.{Clock}

-- fields and a clock for which nothing is refused
pub record Fit (at : Clock) (day hour minute duration : ℕ) : Type 0 where
  pub clock : is_clock at ≡ true
  pub lasts : is_duration duration ≡ true
  pub issue : is_issue day hour minute ≡ true
  pub exists : has_day (year_of at day hour minute) day ≡ true

-- the issue of such fields, or why they are refused
abbrev pub Issued : Clock → ℕ → ℕ → ℕ → ℕ → Result Clock Refusal → Type 0
Issued at day hour minute duration r =
    MatchResult r (λ t. (t ≡ issue_of at day hour minute) × Fit at day hour minute duration)
    (λ e. says e ≡ asked at day hour minute duration)

-- a day, hour and minute of some year, and the minutes from its start
pub record OfYear (day hour minute : ℕ) : Type 0 where
  pub counted : 1 ≤ day
  pub days : day ≤ 366
  pub hours : hour ≤ 23
  pub minutes : minute ≤ 59

pub record Minute (day hour minute r : ℕ) : Type 0 where
  pub is : r ≡ minute_of day hour minute
  pub low : r < 527040
