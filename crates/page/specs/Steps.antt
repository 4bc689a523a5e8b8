-- Steps of the code.
use Rattle.std.specs.Prelude.{ℕ, ◌+◌, ◌-◌, ◌≤◌, ◌<◌, ◌≡◌, List, length, take, drop, Result, Ok, Err}
use Rattle.std.specs.List.{flat_map}
use Rattle.laws.specs.Order.{Said, granted, next}
use Rattle.refusals.specs.Refusals.{says, said}
use Rattle.refusals.specs.declared.Refusal.{Refusal}
use Rattle.input_lines.specs.Lines.{pieces}
use Rattle.input_lines.specs.Forms.{sub_line}
use Rattle.input_lines.specs.LineByLine.{each_line}
use Rattle.book_rules.specs.Form.{form}
use Rattle.book_rules.specs.Rules.{empty}
use Rattle.book_rules.specs.Load.{items, add_all}
use Rattle.page.specs.Input.{adds_line, Shown, report_shows, input_says}
use Rattle.page.specs.declared.Three.{Three}

-- ---- the first three lines

-- what the whole input says, once they are read: the `sub=` lines are added, then comes the report
abbrev pub three_say : List ℕ → Three → Said Shown
three_say t l =
    next (each_line sub_line adds_line empty (pieces (drop (l.to + 1) t)))
    (λ book. report_shows book l.client (take (l.to - l.from) (drop l.from t)) l.at)

-- the header stands inside the text
abbrev pub HeaderIn : List ℕ → Three → Type 0
HeaderIn t l = (l.from ≤ l.to) × (l.to < length t)

abbrev pub ThreeOf : List ℕ → Result Three Refusal → Type 0
ThreeOf t (Ok l) = (three_say t l ≡ input_says t) × HeaderIn t l
ThreeOf t (Err e) = says e ≡ input_says t

-- ---- the `sub=` lines

-- what the lines say once the words of the first of them are gathered, three an item: they are added, and then comes what stands
-- behind them
abbrev pub gathered_says : List ℕ → Result (Unit {0}) Refusal → Said (List ℕ)
gathered_says words ended = next (add_all form empty (items words)) (λ b. next (said ended) (λ u. granted b))

abbrev pub flat : List (List ℕ) → List ℕ
flat its = flat_map (λ x. x) its

pub record GatheredOf (t : List ℕ) (at : ℕ) (r : ℕ × Result (Unit {0}) Refusal) (its : List (List ℕ)) : Type 0 where
  pub fits : r.0 ≤ length its
  pub says : gathered_says (flat (take r.0 its)) r.1 ≡ each_line sub_line adds_line empty (pieces (drop at t))

-- the book after all of them, or the refusal
abbrev pub booked : Result (Unit {0}) Refusal → List ℕ → Said (List ℕ)
booked r book = next (said r) (λ u. granted book)
