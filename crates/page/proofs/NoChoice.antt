-- Two answers that meet the page's promise are equal, with what they leave; 13 writes nothing.
use mathlib.Core.Path.{◌≡◌}
use mathlib.Core.Bool.{true}
use mathlib.Core.List.{List}
use Prim.Native.Nat.{ℕ}
use Rattle.laws.specs.Order.{is_refusal}
use Rattle.std.specs.Prelude.{Result}
use Rattle.refusals.specs.Refusals.{said}
use Rattle.refusals.specs.declared.Refusal.{Refusal}
use Rattle.page_printing.specs.Promise.{PrintPromise}
use Rattle.page_printing.proofs.NoChoice.{print_no_choice, print_refusal_writes_nothing}
use Rattle.page.specs.Page.{page_of}
use Rattle.page.specs.Promise.{PagePromise}

pub as_print : {input out left : List ℕ} {r : Result ℕ Refusal} → PagePromise input out r left → PrintPromise (page_of input) out r left
as_print p = record { says = p.says; space = p.lent }

pub page_no_choice : {input out left rest : List ℕ} {r q : Result ℕ Refusal}
    → PagePromise input out r left → PagePromise input out q rest → (r ≡ q) × (left ≡ rest)
page_no_choice p q = print_no_choice (as_print p) (as_print q)

pub page_refusal_writes_nothing : {input out left : List ℕ} {r : Result ℕ Refusal} → PagePromise input out r left → is_refusal (said r) ≡ true → left ≡ out
page_refusal_writes_nothing p e = print_refusal_writes_nothing (as_print p) e
