-- Three bytes are the code of them.
use Prim.Native.Nat.{ℕ}
use mathlib.Core.Path.{◌≡◌, refl, ap, ◌∙◌}
use mathlib.Core.List.{List, [], ◌∷◌}
use native.Mathlib.Omega.{arith}
use lib.ListN.{length, get_or}
use Rattle.event.specs.Events.{code, is_listed}
use Rattle.event.specs.Class.{class_of}
use Rattle.report.proofs.listed_class_of.Goals as goal

three : (e : List ℕ) → length e ≡ 3 → code (get_or e 0 0) (get_or e 1 0) (get_or e 2 0) ≡ e
three [] h = absurd (omega arith)
three (x ∷ []) h = absurd (omega arith)
three (x ∷ y ∷ []) h = absurd (omega arith)
three (x ∷ y ∷ z ∷ []) h = refl
three (x ∷ y ∷ z ∷ w ∷ l) h = absurd (omega arith)

pub returns : goal.returns
returns c =
    let e = c.args.event.now in
    let t : code (get_or e 0 0) (get_or e 1 0) (get_or e 2 0) ≡ e = three e (omega arith) in
    let p = c.listed_class.ensures in
    λ i. record { listed = (p.listed ∙ ap is_listed t) i; class = (p.class ∙ ap class_of t) i }
