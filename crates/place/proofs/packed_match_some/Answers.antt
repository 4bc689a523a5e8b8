-- The library's search over the places is the definition's.
use mathlib.Core.Path.{◌∙◌}
use Rattle.std.proofs.Common.{rules, tests}
use Rattle.std.proofs.lemmas.Iterator.{YieldsList-from_slice}
use Rattle.std.proofs.lemmas.Iterator.Search.{any_from_yields_List}
use Rattle.laws.proofs.Some.{some_is}
use Rattle.place.specs.Packed.{packed_match, packed_match_some}
use Rattle.place.proofs.packed_match_some.Goals as goal

pub returns : goal.returns
unfolding packed_match_some
returns c =
    let a = c.args in
    let p = packed_match a.watched in
    record { says = any_from_yields_List p _ _ _ c.any.ensures.ran (YieldsList-from_slice a.sent.now cc) (λ x b q k. search (rules, tests)) ∙ some_is p a.sent.now }
