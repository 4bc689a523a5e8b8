-- The minutes reach at most into the following year, so the day they fall on is there.
use mathlib.Core.Path.{ap, ◌∙◌}
use native.Mathlib.Omega.{arith}
use Rattle.clock.specs.Clock.{has_day}
use Rattle.clock.specs.declared.Clock.{Clock}
use Rattle.clock.proofs.Ranges.{days_low}
use Rattle.clock.proofs.Moments.{time_exists}
use Rattle.clock.proofs.stamp_in.Goals as goal

pub stamp_of-requires : goal.stamp_of-requires
stamp_of-requires c =
    let a = c.args in
    ap (λ (t : Clock). has_day t.year t.day) c.time_in.ensures
    ∙ time_exists a.year a.minutes (omega (arith, days_low a.year))
