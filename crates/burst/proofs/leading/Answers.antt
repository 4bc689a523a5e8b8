-- The first of the first 16 that does not count tells how many are dropped.
use Rattle.std.proofs.Common.{ap, ◌∙◌}
use Rattle.std.specs.Option.{unwrap_or}
use lib.ListN.{length, take}
use Rattle.burst.proofs.Stripped.{first_other_is}
use Rattle.burst.proofs.leading.Goals as goal

pub returns : goal.returns
returns c =
    let l = c.args.burst.now in
    record {
      says = c.unwrap_or.ensures ∙ ap (λ o. unwrap_or o (length (take c.min.result l))) c.first_other.ensures
          ∙ first_other_is l c.min.result c.min.ensures;
    }
