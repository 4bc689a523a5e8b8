-- The promises leave no choice: what an answer says is one-to-one, and each promise says it of one thing.
use Prim.Native.Nat.{ℕ}
use mathlib.Core.Path.{◌≡◌, refl, sym, ap, ◌∙◌}
use mathlib.Core.Bool.{Bool}
use mathlib.Core.List.{List}
use Rattle.std.specs.Prelude.{Option, Some, None, Result}
use Rattle.laws.proofs.Clash.{clash}
use Rattle.refusals.specs.declared.Refusal.{Refusal}
use Rattle.refusals.proofs.NoChoice.{said_one}
use Rattle.codec.specs.Kind.{Kind}
use Rattle.header_fields.specs.Says.{minutes_says, issue_says}
use Rattle.header_fields.specs.Promise.{StandsPromise, PlaceAtPromise, MinutesAtPromise, IssueAtPromise}
use Rattle.header_fields.specs.declared.Issue.{Issue}

-- ---- what an answer says is one-to-one

minutes_one : (t : List ℕ) (at : ℕ) (r s : Option ℕ) → minutes_says t at r ≡ minutes_says t at s → r ≡ s
minutes_one t at (Some n) (Some m) e = let a : n ≡ m = cc in ap Some a
minutes_one t at (Some n) None e = clash cc
minutes_one t at None (Some m) e = clash cc
minutes_one t at None None e = refl

issue_one : (t : List ℕ) (at : ℕ) (r s : Option Issue) → issue_says t at r ≡ issue_says t at s → r ≡ s
issue_one t at (Some w) (Some x) e =
    let v : ◌≡◌ {A = ℕ × (ℕ × ℕ)} (w.day, (w.hour, w.minute)) (x.day, (x.hour, x.minute)) = cc in
    λ q. Some (record { day = (v q).0; hour = (v q).1.0; minute = (v q).1.1 })
issue_one t at (Some w) None e = clash cc
issue_one t at None (Some x) e = clash cc
issue_one t at None None e = refl

-- ---- the calls

pub stands_no_choice : {A : Type 0} {k : Kind A} {t : List ℕ} {at : ℕ} {r s : Bool} → StandsPromise k t at r → StandsPromise k t at s → r ≡ s
stands_no_choice p q = p.says ∙ sym q.says

pub place_at_no_choice : {t : List ℕ} {at : ℕ} {r s : Result (ℕ × ℕ) Refusal} → PlaceAtPromise t at r → PlaceAtPromise t at s → r ≡ s
place_at_no_choice {r = r} {s = s} p q = said_one r s (p.says ∙ sym q.says)

pub minutes_at_no_choice : {t : List ℕ} {at : ℕ} {r s : Option ℕ} → MinutesAtPromise t at r → MinutesAtPromise t at s → r ≡ s
minutes_at_no_choice {t} {at} {r} {s} p q = minutes_one t at r s (p.says ∙ sym q.says)

pub issue_at_no_choice : {t : List ℕ} {at : ℕ} {r s : Option Issue} → IssueAtPromise t at r → IssueAtPromise t at s → r ≡ s
issue_at_no_choice {t} {at} {r} {s} p q = issue_one t at r s (p.says ∙ sym q.says)
