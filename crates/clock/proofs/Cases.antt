-- The paper's lines on days, by computation: day 60 in two years, and day 366 of 2023.
use mathlib.Core.Path.{◌≡◌, refl, ap, ◌∙◌}
use mathlib.Core.Bool.{true, false}
use Prim.Native.Nat.{ℕ}
use Rattle.laws.specs.Order.{granted, refused}
use Rattle.refusals.specs.declared.Refusal.TheVariants.{NoSuchDay}
use Rattle.clock.specs.Clock.{has_day, is_clock}
use Rattle.clock.specs.Calendar.{dated, date_of}
use Rattle.header.specs.Header.{is_issue, is_duration}
use Rattle.clock.specs.Answers.{date_says, lifetime_says, times_says}
use Rattle.clock.specs.declared.Clock.{Clock}
use Rattle.clock.proofs.Asking.{asked_14, lifetime_refused, times_refused}
use Rattle.clock.proofs.Moments.{year_is}

-- day 60 is February 29 in 2024, March 1 in 2023
pub leap_60 : date_says 2024 60 ≡ granted (record { month = 2; day = 29 })
unfolding date_says has_day date_of dated
leap_60 = refl

pub plain_60 : date_says 2023 60 ≡ granted (record { month = 3; day = 1 })
unfolding date_says has_day date_of dated
plain_60 = refl

-- day 366 in 2023 gives 14
pub plain_366 : date_says 2023 366 ≡ refused 14
unfolding date_says has_day
plain_366 = refl

no_366 : has_day 2023 366 ≡ false
unfolding has_day
no_366 = refl

module _ (at : Clock) (hour minute duration : ℕ)
    (h : is_clock at ≡ true) (y : at.year ≡ 2023) (d : is_duration duration ≡ true) (i : is_issue 366 hour minute ≡ true) where
  pub times_366 : times_says at 366 hour minute duration ≡ refused 14
  times_366 =
      times_refused at 366 hour minute duration NoSuchDay
      (asked_14 at 366 hour minute duration h d i (ap (λ (n : ℕ). has_day n 366) (year_is at 366 hour minute ∙ y) ∙ no_366))

  pub lifetime_366 : lifetime_says at 366 hour minute duration ≡ refused 14
  lifetime_366 =
      lifetime_refused at 366 hour minute duration NoSuchDay
      (asked_14 at 366 hour minute duration h d i (ap (λ (n : ℕ). has_day n 366) (year_is at 366 hour minute ∙ y) ∙ no_366))
