-- All of it: nothing is left that the record asks for.
use Rattle.demands.specs.Everything.{Everything}
use Rattle.demands.proofs.Demand1.{demand1}
use Rattle.demands.proofs.Demand2.{demand2}
use Rattle.demands.proofs.Demand3.{demand3}
use Rattle.demands.proofs.OutsideDemands.{outside_demands}
use Rattle.demands.proofs.Both.{both_sides}
use Rattle.demands.proofs.Impostors.{impostors}
use Rattle.demands.proofs.DirtyPreambles.{dirty_preambles}
use Rattle.demands.proofs.NationalCode.{national_code}

pub everything : Everything
everything = record {
  demand1 = demand1;
  demand2 = demand2;
  demand3 = demand3;
  outside = outside_demands demand1.outside_number;
  both_sides = both_sides;
  impostors = impostors;
  dirty_preambles = dirty_preambles;
  national_code = national_code demand1.outside_number;
}
