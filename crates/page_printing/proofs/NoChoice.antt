-- The promise of both calls leaves no choice, and a refusal writes nothing.
use Prim.Native.Nat.{ℕ}
use mathlib.Core.Path.{◌≡◌, sym, ap, ◌∙◌}
use mathlib.Core.List.{List}
use mathlib.Core.Bool.{true}
use lib.ListN.{length}
use Rattle.std.specs.Prelude.{Result}
use Rattle.laws.specs.Order.{is_refusal}
use Rattle.laws.specs.Space.{pasted}
use Rattle.laws.proofs.Order.{refusal_leaves}
use Rattle.refusals.proofs.NoChoice.{said_one}
use Rattle.refusals.specs.Refusals.{said}
use Rattle.refusals.specs.declared.Refusal.{Refusal}
use Rattle.page_printing.specs.Promise.{print_says, PrintPromise}

pub print_no_choice : {text d d1 d2 : List ℕ} {r q : Result ℕ Refusal} → PrintPromise text d r d1 → PrintPromise text d q d2 → (r ≡ q) × (d1 ≡ d2)
print_no_choice {r = r} {q = q} a b = (said_one r q (a.says ∙ sym b.says), a.space ∙ sym b.space)

pub print_refusal_writes_nothing : {text d d' : List ℕ} {r : Result ℕ Refusal} → PrintPromise text d r d' → is_refusal (said r) ≡ true → d' ≡ d
print_refusal_writes_nothing {text} {d} a h =
    a.space ∙ refusal_leaves (λ n s. pasted s 0 text) (print_says text (length d)) d (ap is_refusal (sym a.says) ∙ h)
