-- The book after the `sub=` lines: a load of the words gathered says what adding them line by line says, and then 23 has its say.
use mathlib.Core.Path.{◌≡◌, refl, sym, ap, ◌∙◌}
use mathlib.Core.List.{List}
use Prim.Native.Nat.{ℕ}
use lib.ListN.{take, drop}
use Rattle.laws.proofs.Clash.{clash}
use Rattle.std.specs.Prelude.{Result, Ok, Err}
use Rattle.laws.specs.Order.{Said, granted, refused, refused_at, next}
use Rattle.refusals.specs.Refusals.{says, said}
use Rattle.refusals.specs.declared.Refusal.{Refusal}
use Rattle.refusals.proofs.Said.{never_granted, next_refused, says_moved}
use Rattle.laws.specs.Space.{leaves}
use Rattle.input_lines.specs.Lines.{pieces}
use Rattle.input_lines.specs.Forms.{sub_line}
use Rattle.input_lines.specs.LineByLine.{each_line}
use Rattle.book_rules.specs.Form.{form}
use Rattle.book_rules.specs.Rules.{empty}
use Rattle.book_rules.specs.Load.{items, add_all, load_says}
use Rattle.book_edits.specs.Promise.{LoadPromise}
use Rattle.page.specs.Input.{adds_line}
use Rattle.page.specs.Steps.{flat, GatheredOf, booked}
use Rattle.page.proofs.Gathering.{load_empty}

module _ (t : List ℕ) (at : ℕ) (n : ℕ) (ended : Result (Unit {0}) Refusal) (its : List (List ℕ)) (is : GatheredOf t at (n, ended) its)
    (w : List ℕ) (new : w ≡ empty) where
  abbrev words : List ℕ
  words = flat (take n its)

  abbrev load : Said (List ℕ)
  load = load_says form w words

  abbrev lines : Said (List ℕ)
  lines = each_line sub_line adds_line empty (pieces (drop at t))

  -- what is said once the load is done: the lines go on to their end, or 23
  abbrev rest : List ℕ → Said (List ℕ)
  rest b = next (said ended) (λ u. granted b)

  by : (s : Said (List ℕ)) → load ≡ s → next s rest ≡ lines
  by s e =
      let loads : load ≡ add_all form empty (items words) = ap (λ (b : List ℕ). load_says form b words) new ∙ load_empty words in
      ap (λ (o : Said (List ℕ)). next o rest) (sym e ∙ loads) ∙ is.says

  -- the load is refused
  pub stops : (e : Refusal) (left : List ℕ) → LoadPromise w words (Err e) left → booked (Err e) left ≡ lines
  stops e left p = go load refl p.says
    where
      go : (s : Said (List ℕ)) → load ≡ s → says e ≡ next {B = Unit {0}} s (λ b. granted tt) → booked (Err e) left ≡ lines
      go (granted b) q z = never_granted e z
      go (refused m) q z = next_refused e (λ u. granted left) ∙ sym (says_moved e (refused m) z) ∙ by (refused m) q
      go (refused_at m i) q z = next_refused e (λ u. granted left) ∙ sym (says_moved e (refused_at m i) z) ∙ by (refused_at m i) q

  -- it is done
  pub ends : (left : List ℕ) → LoadPromise w words (Ok tt) left → booked ended left ≡ lines
  ends left p = go load refl p.says p.lent
    where
      go : (s : Said (List ℕ)) → load ≡ s → ◌≡◌ {A = Said (Unit {0})} (granted tt) (next s (λ b. granted tt))
          → left ≡ leaves (λ b d. b) load w → booked ended left ≡ lines
      go (granted b) q z l = ap (booked ended) (l ∙ ap (λ (o : Said (List ℕ)). leaves (λ b d. b) o w) q) ∙ by (granted b) q
      go (refused m) q z l = clash cc
      go (refused_at m i) q z l = clash cc
