-- Both kinds of years go alike up to February 28 and then one entry apart: so the calendar's entry is the date by the lengths of the months.
use mathlib.Core.Path.{◌≡◌, refl, sym, ap, ◌∙◌}
use mathlib.Core.Bool.{Bool, true, false, ◌&&◌, not}
use mathlib.Core.List.{[], ◌∷◌}
use Prim.Native.Nat.{ℕ, ◌+◌, ◌-◌, ◌/◌, ◌%◌, ◌≤◌, ◌<◌}
use native.Mathlib.Decide.{dec_lt}
use native.Mathlib.Omega.{arith}
use lib.Dec.{leb}
use borrow.Author.Tests.{lt-ltb, le-ltb, le-leb, lt-leb}
use Rattle.laws.specs.Order.{choose}
use Rattle.laws.specs.Numbers.{within}
use Rattle.laws.specs.Lists.{all}
use Rattle.laws.proofs.Tests.{and_l, and_r}
use Rattle.laws.proofs.All.{all_at}
use Rattle.clock.specs.Clock.{leap, has_day}
use Rattle.clock.specs.Calendar.{months, months_of, dated, calendar, entry_of, split, date_of}
use Rattle.clock.proofs.Ranges.{has_day_low, has_day_high}

-- ---- both kinds of years go alike up to February 28, and after that one entry apart

january : (f i : ℕ) → i < 31 → dated (months f) 1 i ≡ 32 + (i + 1)
unfolding dated
january f i h = rw (lt-ltb i 31 h)

february : (f i : ℕ) → 31 ≤ i → i - 31 < f → dated (months f) 1 i ≡ 64 + (i - 31 + 1)
unfolding dated
february f i h l = rw (le-ltb i 31 h, lt-ltb (i - 31) f l)

march : (f i : ℕ) → 31 ≤ i → f ≤ i - 31 → dated (months f) 1 i ≡ dated (31 ∷ 30 ∷ 31 ∷ 30 ∷ 31 ∷ 31 ∷ 30 ∷ 31 ∷ 30 ∷ 31 ∷ []) 3 (i - 31 - f)
unfolding dated
march f i h l = rw (le-ltb i 31 h, le-ltb (i - 31) f l)

sooner : (i : ℕ) → i < 59 → calendar i ≡ dated (months 28) 1 i
sooner i h =
    elim (dec_lt i 31) [
      | yes p ↦ january 29 i p ∙ sym (january 28 i p)
      | no q ↦ february 29 i (omega arith) (omega arith) ∙ sym (february 28 i (omega arith) (omega arith))
    ]

later : (i : ℕ) → 59 ≤ i → calendar (i + 1) ≡ dated (months 28) 1 i
later i h =
    let e : i + 1 - 31 - 29 ≡ i - 31 - 28 = omega arith in
    march 29 (i + 1) (omega arith) (omega arith) ∙ rw e (sym (march 28 i (omega arith) (omega arith)))

by_kind : (b : Bool) (day : ℕ) → 1 ≤ day → calendar (choose (not b && leb 60 day) day (day - 1)) ≡ dated (months (choose b 29 28)) 1 (day - 1)
by_kind true day h = refl
by_kind false day h =
    elim (dec_lt day 60) [
      | yes p ↦ rw (lt-leb 60 day p) (sooner (day - 1) (omega arith))
      | no q ↦ let e : day ≡ day - 1 + 1 = omega arith in rw (le-leb 60 day (omega arith)) (ap calendar e ∙ later (day - 1) (omega arith))
    ]

pub by_months : (year day : ℕ) → has_day year day ≡ true → date_of year day ≡ split (dated (months_of year) 1 (day - 1))
unfolding date_of
by_months year day h = ap split (by_kind (leap year) day (has_day_low year day h))

-- ---- the index of the entry is one of the table's

pub entry_low : (year day : ℕ) → has_day year day ≡ true → entry_of year day < 366
entry_low year day h = by (leap year) refl
  where
    days : (b : Bool) → leap year ≡ b → day ≤ choose b 366 365
    days b e = rw (← e) (has_day_high year day h)

    by : (b : Bool) → leap year ≡ b → choose (not b && leb 60 day) day (day - 1) < 366
    by true e = omega (arith, has_day_low year day h, days true e)
    by false e =
        elim (dec_lt day 60) [
          | yes p ↦ rw (lt-leb 60 day p) (omega arith)
          | no q ↦ rw (le-leb 60 day (omega arith)) (omega (arith, days false e))
        ]

-- ---- months 1 to 12, days 1 to 31

abbrev fair : ℕ → Bool
fair x = within 1 12 (x / 32) && within 1 31 (x % 32)

fair_entry : (i : ℕ) → i < 366 → fair (calendar i) ≡ true
unfolding dated all
fair_entry i h = all_at 366 i (λ k. fair (calendar k)) refl h

fair_date : (year day : ℕ) → has_day year day ≡ true → fair (calendar (entry_of year day)) ≡ true
fair_date year day h = fair_entry (entry_of year day) (entry_low year day h)

pub date_range : (year day : ℕ) → has_day year day ≡ true
    → (within 1 12 (date_of year day).month ≡ true) × (within 1 31 (date_of year day).day ≡ true)
unfolding date_of
date_range year day h =
    let x : ℕ = calendar (entry_of year day) in
    (and_l (within 1 12 (x / 32)) (within 1 31 (x % 32)) (fair_date year day h), and_r (within 1 12 (x / 32)) (within 1 31 (x % 32)) (fair_date year day h))
