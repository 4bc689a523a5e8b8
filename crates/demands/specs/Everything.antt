-- All of it in one record: the demands, also as a caller from outside meets them, both sides of each line, the impostors, and
-- what the requests of paper 02 add.
use Rattle.demands.specs.Demand1.{Demand1}
use Rattle.demands.specs.Demand2.{Demand2}
use Rattle.demands.specs.Demand3.{Demand3}
use Rattle.demands.specs.OutsideDemands.{OutsideDemands}
use Rattle.demands.specs.Both.{BothSides}
use Rattle.demands.specs.Impostors.{Impostors}
use Rattle.demands.specs.DirtyPreambles.{DirtyPreambles}
use Rattle.demands.specs.NationalCode.{NationalCode}

pub record Everything : Type 0 where
  pub demand1 : Demand1
  pub demand2 : Demand2
  pub demand3 : Demand3
  pub outside : OutsideDemands
  pub both_sides : BothSides
  pub impostors : Impostors
  pub dirty_preambles : DirtyPreambles
  pub national_code : NationalCode
