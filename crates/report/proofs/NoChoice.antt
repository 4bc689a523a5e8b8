-- Two answers that meet the report's promise are equal, with what they leave; a refusal writes nothing.
use mathlib.Core.Path.{◌≡◌, refl, sym, ap, ◌∙◌}
use mathlib.Core.Bool.{true}
use mathlib.Core.List.{List}
use Prim.Native.Nat.{ℕ}
use lib.ListN.{length}
use Rattle.laws.specs.Order.{Said, granted, refused, refused_at, is_refusal}
use Rattle.laws.proofs.Order.{refusal_leaves}
use Rattle.clock.specs.declared.Clock.{Clock}
use Rattle.report.specs.Report.{Full, report_says}
use Rattle.report.specs.Answers.{answer_says}
use Rattle.std.specs.Prelude.{Result}
use Rattle.refusals.specs.Refusals.{said}
use Rattle.refusals.specs.declared.Refusal.{Refusal}
use Rattle.refusals.proofs.NoChoice.{said_one}
use Rattle.report.specs.declared.Summary.{Summary}
use Rattle.report.specs.Promise.{writes_hits, ReportPromise}

pub report_no_choice : (book : List ℕ) (client : ℕ) (text : List ℕ) (at : Clock) (out : List ℕ) (r q : Result Summary Refusal) (left rest : List ℕ)
    → ReportPromise book client text at out r left → ReportPromise book client text at out q rest → (r ≡ q) × (left ≡ rest)
report_no_choice book client text at out r q left rest p u = (said_one r q (p.says ∙ sym u.says), p.lent ∙ sym u.lent)

-- the answer says a refusal where the report does
said_refuses : (s : Said Full) → is_refusal (answer_says s) ≡ is_refusal s
said_refuses (granted g) = refl
said_refuses (refused n) = refl
said_refuses (refused_at n i) = refl

pub report_refusal_writes_nothing : (book : List ℕ) (client : ℕ) (text : List ℕ) (at : Clock) (out : List ℕ) (r : Result Summary Refusal) (left : List ℕ)
    → ReportPromise book client text at out r left → is_refusal (said r) ≡ true → left ≡ out
report_refusal_writes_nothing book client text at out r left p e =
    let s : Said Full = report_says book client text at (length out) in
    p.lent ∙ refusal_leaves writes_hits s out (sym (said_refuses s) ∙ ap is_refusal (sym p.says) ∙ e)
