-- for proofs
-- What the slots of a function hold.
use Rattle.std.specs.Prelude.{◌≡◌, ℕ, Bool, true, false, List, Some, slice_get}
use Rattle.mdr_core.specs.declared.types.Ty.{Ty}
use Rattle.mdr_core.specs.declared.program.Program.{Program}
use Rattle.mdr_core.specs.Typing.{Slot, Extent, One, Many}
use Rattle.mdr_meaning.specs.declared.wire.Wire.{Wire}
use Rattle.mdr_meaning.specs.Expressions.{slot_of}
use Rattle.mdr_meaning.specs.Fit.{Knowledge, PointsTo, Fits}

-- the type of what an lvalue designates, of each element where it is an array
abbrev pub elements : Extent → Ty
elements (One t) = t
elements (Many t n) = t

-- an object's slot holds its address, any other a value of its type
abbrev pub slot_fits : Bool → Program → Knowledge → Ty → Wire → Type 0
slot_fits true program K t v = PointsTo program K t v
slot_fits false program K t v = Fits program K t v

abbrev pub SlotFits : Program → Knowledge → Slot → Wire → Type 0
SlotFits program K s v = slot_fits s.object program K s.ty v

pub record SlotsFit (program : Program) (K : Knowledge) (slots : List Slot) (held : List Wire) : Type 0 where
  pub each : (i : ℕ) (s : Slot) → slice_get slots i ≡ Some s → SlotFits program K s (slot_of held i)
