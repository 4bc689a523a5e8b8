-- The table is the list of codes with the class of each, which antt computes; the search finds the first row that has the code.
use Rattle.std.proofs.Common.{rules, tests}
use Rattle.std.proofs.lemmas.Iterator.{YieldsList-from_slice}
use Rattle.std.proofs.lemmas.Iterator.Search.{find_from_yields_List}
use lib.Pointwise.{pointwise}
use lib.Dec.{eqb}
use Rattle.event.specs.Events.{code, events}
use Rattle.event.specs.Class.{class_of}
use Rattle.event.specs.Steps.{codes}
use Rattle.event.proofs.Search.{rows, found}
use Rattle.event.proofs.find.Goals as goal

pub returns : goal.returns
unfolding codes events class_of
returns c =
    let a = c.args in
    let e = code a.a a.b a.c in
    found e c.find.result c.map.result
    (find_from_yields_List (λ r. pointwise eqb e r.0) _ _ _ c.find.ensures.ran (YieldsList-from_slice rows c.iter.ensures.rest) (λ x b q k. search (rules, tests)))
    (search rules)
