-- For callers that hand over a header's own fields: 15 and 14 alone can come, 14 exactly where the year lacks the day.
use mathlib.Core.Path.{◌≡◌, refl}
use mathlib.Core.Bool.{Bool, true, false, not}
use mathlib.Core.List.{[], ◌∷◌}
use Prim.Native.Nat.{ℕ}
use Rattle.laws.specs.Order.{granted, refused, ◌when◌, in_order}
use Rattle.refusals.specs.declared.Refusal.TheVariants.{BadClock, NoSuchDay}
use Rattle.clock.specs.Clock.{has_day, is_clock}
use Rattle.header.specs.Header.{is_issue, is_duration}
use Rattle.clock.specs.Lifetime.{year_of, times_of}
use Rattle.clock.specs.Answers.{bad_clock, no_day, times_says}
use Rattle.clock.specs.declared.Clock.{Clock}
use Rattle.clock.proofs.Asking.{asked_15, asked_14, asked_fit, times_refused, times_granted}

module _ (at : Clock) (day hour minute duration : ℕ) (i : is_issue day hour minute ≡ true) (d : is_duration duration ≡ true) where
  pub bad_clock_refused : is_clock at ≡ false → times_says at day hour minute duration ≡ refused 15
  bad_clock_refused h = times_refused at day hour minute duration BadClock (asked_15 at day hour minute duration h)

  pub no_day_refused : is_clock at ≡ true → has_day (year_of at day hour minute) day ≡ false → times_says at day hour minute duration ≡ refused 14
  no_day_refused h y = times_refused at day hour minute duration NoSuchDay (asked_14 at day hour minute duration h d i y)

  pub timed : is_clock at ≡ true → has_day (year_of at day hour minute) day ≡ true
      → times_says at day hour minute duration ≡ granted (times_of at day hour minute duration)
  timed h y = times_granted at day hour minute duration (asked_fit at day hour minute duration (record { clock = h; lasts = d; issue = i; exists = y }))

  -- in one line, as a report has it
  pub header_times : times_says at day hour minute duration
      ≡ in_order
      (
      bad_clock at
      ∷ no_day (year_of at day hour minute) day
      ∷ []
      )
      (granted (times_of at day hour minute duration))
  header_times = by (is_clock at) (has_day (year_of at day hour minute) day) refl refl
    where
      by : (a b : Bool) → is_clock at ≡ a → has_day (year_of at day hour minute) day ≡ b
          → times_says at day hour minute duration
          ≡ in_order (refused 15 when not a ∷ refused 14 when not b ∷ []) (granted (times_of at day hour minute duration))
      by false b p q = bad_clock_refused p
      by true false p q = no_day_refused p q
      by true true p q = timed p q
