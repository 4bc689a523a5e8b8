-- The year is the clock's, and the minutes of the issue are counted once, for the end and for the phase.
use mathlib.Core.Path.{◌≡◌, sym, ap, ◌∙◌}
use Prim.Native.Nat.{ℕ, ◌+◌}
use native.Mathlib.Omega.{arith}
use Rattle.clock.specs.Clock.{has_day}
use Rattle.clock.specs.Lifetime.{minute_of, phase_of, stamp_of, time_in, times_of, issue_of, until_of, lifetime_of}
use Rattle.header.proofs.Callers.{duration_bounds}
use Rattle.clock.proofs.Ranges.{clock_year}
use Rattle.clock.proofs.Moments.{year_is, in_that_year}
use Rattle.clock.proofs.times_at.Goals as goal

pub stamp_of-requires : goal.stamp_of-requires
stamp_of-requires c =
    let t = c.args.issue in
    ap (λ (y : ℕ). has_day y t.day) (c.requires.1 ∙ sym (year_is c.args.at t.day t.hour t.minute)) ∙ c.requires.0.exists

pub overflow_add-start : goal.overflow_add-start
overflow_add-start c =
    omega (arith, duration_bounds c.args.duration c.requires.0.lasts, c.minute_of-start.ensures.low)

pub stamp_in-requires : goal.stamp_in-requires
stamp_in-requires c =
    let a = c.args in
    let p = c.requires.0 in
    (omega (arith, clock_year a.at p.clock, c.requires.1), omega (arith, c.minute_of-start.ensures.low, duration_bounds a.duration p.lasts))

pub returns : goal.returns
unfolding times_of
returns c =
    let a = c.args in
    let t = a.issue in
    let minutes = c.minute_of-start in
    let y = c.requires.1 ∙ sym (year_is a.at t.day t.hour t.minute) in
    let m : minutes.result ≡ minute_of t.day t.hour t.minute = minutes.ensures.is in
    let i : c.stamp_of.result ≡ stamp_of (issue_of a.at t.day t.hour t.minute) =
    c.stamp_of.ensures ∙ ap (λ (n : ℕ). stamp_of (record { year = n; day = t.day; hour = t.hour; minute = t.minute })) y in
    let u : c.stamp_in.result ≡ stamp_of (until_of a.at t.day t.hour t.minute a.duration) =
    c.stamp_in.ensures ∙ (λ q. stamp_of (time_in (y q) (m q + a.duration))) in
    let s : c.phase_at.result ≡ lifetime_of a.at t.day t.hour t.minute a.duration =
    c.phase_at.ensures
    ∙ ap (λ (n : ℕ). phase_of n a.duration (minute_of a.at.day a.at.hour a.at.minute)) m
    ∙ in_that_year a.at t.day t.hour t.minute a.duration in
    λ q. record { issued = i q; until = u q; phase = s q }
