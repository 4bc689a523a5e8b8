-- 15, 9, 10 and 14 come in this order, each by its own condition; where none came, all four conditions are met.
use mathlib.Core.Path.{◌≡◌, refl, sym, ◌∙◌}
use mathlib.Core.Bool.{Bool, true, false, not}
use mathlib.Core.List.{[], ◌∷◌}
use Prim.Native.Nat.{ℕ}
use Rattle.laws.specs.Order.{granted, refused, ◌when◌, in_order}
use Rattle.laws.proofs.Clash.{clash}
use Rattle.refusals.specs.Refusals.{says}
use Rattle.refusals.specs.declared.Refusal.{Refusal}
use Rattle.refusals.specs.declared.Refusal.TheVariants.{BadClock}
use Rattle.refusals.proofs.Said.{never_granted, next_refused}
use Rattle.clock.specs.Clock.{has_day, is_clock}
use Rattle.header.specs.Header.{is_issue, is_duration}
use Rattle.clock.specs.Lifetime.{year_of, lifetime_of, times_of}
use Rattle.clock.specs.Answers.{clock_says, asked, lifetime_says, times_says}
use Rattle.clock.specs.Steps.{Fit}
use Rattle.clock.specs.declared.Clock.{Clock}

-- a clock that nothing is said against is in range
pub checked : (at : Clock) → clock_says at ≡ granted tt → is_clock at ≡ true
unfolding clock_says
checked at e =
    by (is_clock at) refl
  where
    by : (b : Bool) → is_clock at ≡ b → is_clock at ≡ true
    by true h = h
    by false h = (let k : clock_says at ≡ refused 15 = simp h in never_granted BadClock (sym k ∙ e))

module _ (at : Clock) (day hour minute duration : ℕ) where
  pub asked_15 : is_clock at ≡ false → asked at day hour minute duration ≡ refused 15
  unfolding asked
  asked_15 h = rw h

  pub asked_9 : is_clock at ≡ true → is_duration duration ≡ false → asked at day hour minute duration ≡ refused 9
  unfolding asked
  asked_9 h d = rw (h, d)

  pub asked_10 : is_clock at ≡ true → is_duration duration ≡ true → is_issue day hour minute ≡ false → asked at day hour minute duration ≡ refused 10
  unfolding asked
  asked_10 h d i = rw (h, d, i)

  pub asked_14 : is_clock at ≡ true → is_duration duration ≡ true → is_issue day hour minute ≡ true → has_day (year_of at day hour minute) day ≡ false
      → asked at day hour minute duration ≡ refused 14
  unfolding asked
  asked_14 h d i y = rw (h, d, i, y)

  pub asked_fit : Fit at day hour minute duration → asked at day hour minute duration ≡ granted tt
  unfolding asked
  asked_fit f = rw (f.clock, f.lasts, f.issue, f.exists)

  pub fit : asked at day hour minute duration ≡ granted tt → Fit at day hour minute duration
  unfolding asked
  fit e =
      by (is_clock at) (is_duration duration) (is_issue day hour minute) (has_day (year_of at day hour minute) day) refl refl refl refl e
    where
      by : (a b c d : Bool) → is_clock at ≡ a → is_duration duration ≡ b → is_issue day hour minute ≡ c → has_day (year_of at day hour minute) day ≡ d
          → in_order (refused 15 when not a ∷ refused 9 when not b ∷ refused 10 when not c ∷ refused 14 when not d ∷ []) (granted tt) ≡ granted (tt {0})
          → Fit at day hour minute duration
      by true true true true p q r s e = record { clock = p; lasts = q; issue = r; exists = s }
      by false b c d p q r s e = clash cc
      by true false c d p q r s e = clash cc
      by true true false d p q r s e = clash cc
      by true true true false p q r s e = clash cc

  -- a clock that is refused, is refused first
  pub asked_clock : (e : Refusal) → says e ≡ clock_says at → says e ≡ asked at day hour minute duration
  unfolding clock_says
  asked_clock e p =
      by (is_clock at) refl
    where
      by : (b : Bool) → is_clock at ≡ b → says e ≡ asked at day hour minute duration
      by true h = (let k : clock_says at ≡ granted tt = simp h in never_granted e (p ∙ k))
      by false h = (let k : clock_says at ≡ refused 15 = simp h in p ∙ k ∙ sym (asked_15 h))

  -- the calls hand on what was refused, or say what there is to say
  pub lifetime_refused : (e : Refusal) → asked at day hour minute duration ≡ says e → lifetime_says at day hour minute duration ≡ says e
  unfolding lifetime_says
  lifetime_refused e h = rw h (next_refused e (λ u. granted (lifetime_of at day hour minute duration)))

  pub lifetime_granted : asked at day hour minute duration ≡ granted tt
      → lifetime_says at day hour minute duration ≡ granted (lifetime_of at day hour minute duration)
  unfolding lifetime_says
  lifetime_granted e = rw e

  pub times_refused : (e : Refusal) → asked at day hour minute duration ≡ says e → times_says at day hour minute duration ≡ says e
  unfolding times_says
  times_refused e h = rw h (next_refused e (λ u. granted (times_of at day hour minute duration)))

  pub times_granted : asked at day hour minute duration ≡ granted tt → times_says at day hour minute duration ≡ granted (times_of at day hour minute duration)
  unfolding times_says
  times_granted e = rw e
