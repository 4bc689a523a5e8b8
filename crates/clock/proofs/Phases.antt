-- Exactly one of early, live and expired holds, and the phase is that one.
use mathlib.Core.Path.{◌≡◌, sym, ◌∙◌}
use mathlib.Core.Logic.{⊎_elim}
use Prim.Native.Nat.{ℕ, ◌+◌}
use Rattle.laws.proofs.Tests.{le_or_lt}
use Rattle.clock.specs.Lifetime.{phase_of}
use Rattle.clock.specs.Meaning.{Holds}
use Rattle.clock.specs.declared.Phase.{Phase}
use Rattle.clock.specs.declared.Phase.TheVariants.{Early, Live, Expired}
use Rattle.clock.proofs.Moments.{is_early, is_live, is_expired}

pub phase_holds : (issue duration at : ℕ) → Holds issue duration at (phase_of issue duration at)
phase_holds issue duration at =
    ⊎_elim (λ h. rw (is_early issue duration at h) h)
    (λ h.
    ⊎_elim (λ l. rw (is_live issue duration at h l) (h, l))
    (λ l. rw (is_expired issue duration at l) l)
    (le_or_lt at (issue + duration)))
    (le_or_lt (at + 5) issue)

pub phase_only : (issue duration at : ℕ) (s : Phase) → Holds issue duration at s → phase_of issue duration at ≡ s
phase_only issue duration at Early h = is_early issue duration at h
phase_only issue duration at Live h = is_live issue duration at h.0 h.1
phase_only issue duration at Expired h = is_expired issue duration at h

-- no two of them
pub one_phase : (issue duration at : ℕ) (s t : Phase) → Holds issue duration at s → Holds issue duration at t → s ≡ t
one_phase issue duration at s t p q = sym (phase_only issue duration at s p) ∙ phase_only issue duration at t q
