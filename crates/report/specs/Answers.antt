-- What the answer of a report says, in the paper's numbers and values.
use Rattle.std.specs.Prelude.{ℕ, ◌≡◌, Result, Ok}
use Rattle.laws.specs.Order.{Said, granted, next}
use Rattle.refusals.specs.declared.Refusal.{Refusal}
use Rattle.report.specs.Report.{Full}
use Rattle.report.specs.declared.Summary.{Summary}

-- of what a report says, what the answer tells: the hits stand in the lent words
abbrev pub answer_says : Said Full → Said Summary
answer_says s = next s (λ g. granted g.summary)

-- the report is granted, and tells so many hits
abbrev pub HasHits : ℕ → Result Summary Refusal → Type 0
HasHits n r = (s : Summary) × (r ≡ Ok s) × (s.hits ≡ n)
