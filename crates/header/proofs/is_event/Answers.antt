-- The library's test of all the letters is the definition's.
use mathlib.Core.Path.{◌≡◌, ◌∙◌}
use Rattle.std.proofs.Common.{rules, tests}
use Rattle.std.proofs.lemmas.Iterator.{YieldsList-from_slice}
use Rattle.std.proofs.lemmas.Iterator.Search.{all_from_yields_List}
use Prim.Native.Nat.{ℕ}
use mathlib.Core.Bool.{Bool}
use Rattle.codec.specs.Promise.{BetweenPromise}
use Rattle.laws.specs.Numbers.{within}
use Rattle.laws.proofs.Every.{every_is}
use Rattle.header.proofs.is_event.Goals as goal

between_says : {lo hi b : ℕ} {r : Bool} → BetweenPromise lo hi b r → r ≡ within lo hi b
between_says p = p.says

pub returns : goal.returns
returns c =
    let b = c.args.b.now in
    record { says = all_from_yields_List (within 65 90) _ _ _ c.all.ensures.ran (YieldsList-from_slice b cc) (λ x b q k. search (rules, tests, between_says)) ∙ every_is (within 65 90) b }
