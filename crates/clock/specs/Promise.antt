-- What the calls on clocks promise.
use Rattle.std.specs.Prelude.{ℕ, ◌≡◌, Result}
use Rattle.refusals.specs.Refusals.{said}
use Rattle.refusals.specs.declared.Refusal.{Refusal}
use Rattle.clock.specs.Answers.{clock_says, date_says, lifetime_says, times_says}
use Rattle.clock.specs.declared.Clock.{Clock}
use Rattle.clock.specs.declared.MonthDay.{MonthDay}
use Rattle.clock.specs.declared.Phase.{Phase}
use Rattle.clock.specs.declared.Times.{Times}

pub record CheckPromise (at : Clock) (r : Result (Unit {0}) Refusal) : Type 0 where
  pub says : said r ≡ clock_says at

pub record DatePromise (year day : ℕ) (r : Result MonthDay Refusal) : Type 0 where
  pub says : said r ≡ date_says year day

pub record LifetimePromise (at : Clock) (day hour minute duration : ℕ) (r : Result Phase Refusal) : Type 0 where
  pub says : said r ≡ lifetime_says at day hour minute duration

pub record TimesPromise (at : Clock) (day hour minute duration : ℕ) (r : Result Times Refusal) : Type 0 where
  pub says : said r ≡ times_says at day hour minute duration
