-- What a result says is said by no other, so two that meet a promise are equal. No call is lent space.
use mathlib.Core.Path.{◌≡◌, sym, ◌∙◌}
use Prim.Native.Nat.{ℕ}
use Rattle.std.specs.Prelude.{Result}
use Rattle.refusals.specs.declared.Refusal.{Refusal}
use Rattle.refusals.proofs.NoChoice.{said_one}
use Rattle.clock.specs.Promise.{CheckPromise, DatePromise, LifetimePromise, TimesPromise}
use Rattle.clock.specs.declared.Clock.{Clock}
use Rattle.clock.specs.declared.MonthDay.{MonthDay}
use Rattle.clock.specs.declared.Phase.{Phase}
use Rattle.clock.specs.declared.Times.{Times}

pub check_no_choice : (at : Clock) (r s : Result (Unit {0}) Refusal) → CheckPromise at r → CheckPromise at s → r ≡ s
check_no_choice at r s p q = said_one r s (p.says ∙ sym q.says)

pub date_of_no_choice : (year day : ℕ) (r s : Result MonthDay Refusal) → DatePromise year day r → DatePromise year day s → r ≡ s
date_of_no_choice year day r s p q = said_one r s (p.says ∙ sym q.says)

pub lifetime_no_choice : (at : Clock) (day hour minute duration : ℕ) (r s : Result Phase Refusal)
    → LifetimePromise at day hour minute duration r → LifetimePromise at day hour minute duration s → r ≡ s
lifetime_no_choice at day hour minute duration r s p q = said_one r s (p.says ∙ sym q.says)

pub times_of_no_choice : (at : Clock) (day hour minute duration : ℕ) (r s : Result Times Refusal)
    → TimesPromise at day hour minute duration r → TimesPromise at day hour minute duration s → r ≡ s
times_of_no_choice at day hour minute duration r s p q = said_one r s (p.says ∙ sym q.says)
