-- believed
-- What lies outside a run, at one moment.
use Rattle.mdr_outside.specs.Sides.{SinkSide}
use Rattle.mdr_top.specs.Sides.{Sides}

-- the shelf and the far side, and the output
pub record Outside : Type 0 where
  pub sides : Sides
  pub out : SinkSide
