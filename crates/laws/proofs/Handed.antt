-- What a `?` hands on: the error as it is, also where it is one that a missing value was given.
use mathlib.Core.Path.{◌≡◌, ap, ◌∙◌}
use Rattle.std.specs.Prelude.{Option, None, Result, Err}
use Rattle.std.specs.Option.{ok_or}
use Rattle.std.specs.Result.{IsErrAnd}
use Rattle.std.proofs.lemmas.Result.{err_from_is_err_and}

pub handed : {A E : Type 0} (r : Result A E) (e : E) → IsErrAnd r (λ y. y ≡ e) → r ≡ Err e
handed r e f = let p = err_from_is_err_and r f in p.1 ∙ ap Err p.2

pub handed_or : {A B E : Type 0} {o : Option B} (r : Result A E) (e f : E) → IsErrAnd r (λ y. y ≡ e) → Err e ≡ ok_or o f → o ≡ None → r ≡ Err f
handed_or {A} {B} {E} r e f h v n =
    let q : ◌≡◌ {A = Result B E} (Err e) (Err f) = v ∙ ap (λ (x : Option B). ok_or x f) n in
    let w : e ≡ f = cc in
    handed r e h ∙ ap Err w
