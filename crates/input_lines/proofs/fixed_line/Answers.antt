-- Nothing is read where the text is too short or no byte 10 stands behind the line; else what `of` says of its bytes.
use Rattle.std.proofs.Common.{refl, sym, ◌∙◌, arith, Some, None}
use Rattle.input_lines.specs.Steps.{no_end, ends}
use Rattle.input_lines.proofs.Fixed.{ends_not, ends_by, front_is}
use Rattle.input_lines.proofs.fixed_line.Goals as goal

pub returns-in_err-get : goal.returns-in_err-get
returns-in_err-get g c = no_end (ends_not _ _ _ (omega (arith, c.in_err-get.ensures.lookup.0))) c.from_residual.ensures

pub returns-in_err-line : goal.returns-in_err-line
returns-in_err-line g c =
    no_end (ends_not _ _ _ (omega (arith, c.in_ok-get.ensures.lookup.0, c.in_err-line.ensures.cases))) c.from_residual-in_err-line.ensures

pub returns-then-not-starts_with : goal.returns-then-not-starts_with
returns-then-not-starts_with g c =
    let a = c.args in
    let e = ends_by a.input.now a.at a.n _ _ _ c.in_ok-get.ensures.lookup.0.2 c.in_ok-line.ensures.cases in
    no_end (sym (c.if-not-starts_with.ensures.value ∙ e)) refl

pub returns-in_err-of : goal.returns-in_err-of
returns-in_err-of g c =
    let a = c.args in
    let left = c.in_ok-get.ensures.lookup.0.2 in
    let cut = c.in_ok-line.ensures.cases in
    ends (sym (c.if-not-starts_with.ensures.value ∙ ends_by a.input.now a.at a.n _ _ _ left cut)) None
    (record { shown = c.in_ok-line.line; shows = front_is a.input.now a.at a.n _ _ _ left cut; says = record { met = c.in_err-of.ensures } })
    c.from_residual-in_err-of.ensures

pub returns : goal.returns
returns g c =
    let a = c.args in
    let left = c.in_ok-get.ensures.lookup.0.2 in
    let cut = c.in_ok-line.ensures.cases in
    ends (sym (c.if-not-starts_with.ensures.value ∙ ends_by a.input.now a.at a.n _ _ _ left cut)) (Some c.in_ok-of.field-0)
    (record { shown = c.in_ok-line.line; shows = front_is a.input.now a.at a.n _ _ _ left cut; says = record { met = c.in_ok-of.ensures } })
    refl
