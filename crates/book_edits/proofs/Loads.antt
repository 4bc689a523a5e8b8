-- A load by what it says: the book is not good, all items were added to an empty one, or one of them is refused.
use mathlib.Core.Path.{◌≡◌, refl, sym, ap, ◌∙◌}
use Rattle.std.proofs.Common.{Result, Ok, Err}
use mathlib.Core.Bool.{true, false}
use mathlib.Core.List.{List, []}
use Prim.Native.Nat.{ℕ}
use native.Mathlib.Omega.{arith}
use Rattle.laws.specs.Order.{Said, granted, refused, refused_at, next, is_refusal}
use Rattle.laws.specs.Space.{leaves}
use Rattle.laws.proofs.Tests.{impossible}
use Rattle.book_rules.specs.Form.{form}
use Rattle.book_rules.specs.Rules.{good, empty}
use Rattle.book_rules.specs.Load.{items, add_all, load_says}
use Rattle.book_rules.proofs.Form.{form_laws}
use Rattle.book_rules.proofs.Whole.{layout_good, empty_layout}
use Rattle.refusals.specs.Refusals.{said}
use Rattle.refusals.specs.declared.Refusal.{Refusal}
use Rattle.refusals.specs.declared.Refusal.TheVariants.{BadBook}
use Rattle.refusals.proofs.Said.{says_refused}
use Rattle.book_edits.specs.Promise.{LoadPromise}
use Rattle.book_edits.specs.Steps.{AddsAll}

pub empty_good : good form empty ≡ true
empty_good = sym (ap (good form) empty_layout) ∙ layout_good form [] tt form_laws (omega arith)

module _ (w l : List ℕ) where
  by_says : (r : Result (Unit {0}) Refusal) (left : List ℕ) (s : Said (List ℕ)) → load_says form w l ≡ s → said r ≡ next s (λ b. granted tt)
      → left ≡ leaves (λ b d. b) s w → LoadPromise w l r left
  by_says r left s q a b = record {
    says = a ∙ sym (ap (λ (s : Said (List ℕ)). next s (λ b. granted tt)) q);
    lent = b ∙ sym (ap (λ (s : Said (List ℕ)). leaves (λ b d. b) s w) q);
  }

  pub not_good : good form w ≡ false → LoadPromise w l (Err BadBook) w
  unfolding load_says
  not_good g = by_says (Err BadBook) w (refused 16) (rw g) refl refl

  module _ (g : good form w ≡ true) where
    load_is : load_says form w l ≡ add_all form empty (items l)
    unfolding load_says
    load_is = rw g

    pub loaded : (left : List ℕ) → add_all form empty (items l) ≡ granted left → LoadPromise w l (Ok tt) left
    loaded left e = by_says (Ok tt) left (granted left) (load_is ∙ e) refl refl

    pub first_refusal : (e : Refusal) (left : List ℕ) → AddsAll empty l (Err e) left → LoadPromise w l (Err e) w
    first_refusal e left p =
        by_says (Err e) w (add_all form empty (items l)) load_is p.says
        (stays (add_all form empty (items l)) (ap is_refusal (sym p.says) ∙ says_refused (Unit {0}) e))
      where
        stays : (s : Said (List ℕ)) → is_refusal (next {B = Unit {0}} s (λ b. granted tt)) ≡ true → w ≡ leaves (λ b d. b) s w
        stays (granted b) h = impossible h
        stays (refused m) h = refl
        stays (refused_at m i) h = refl
