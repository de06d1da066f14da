-- believed
-- What lies outside a command over two halves.
use Rattle.mdr_outside.specs.Sides.{ShelfSide, FarSide}

-- the shelf and the far side, at one moment
pub record Sides : Type 0 where
  pub shelf : ShelfSide
  pub far : FarSide

-- before some work and after it
pub record Change : Type 0 where
  pub before : Sides
  pub after : Sides

abbrev pub changed : (shelf : ShelfSide) (far : FarSide) (shelf' : ShelfSide) (far' : FarSide) → Change
changed shelf far shelf' far' = record { before = record { shelf = shelf; far = far }; after = record { shelf = shelf'; far = far' } }
