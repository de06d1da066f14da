-- protocol
-- What the slots of a function hold when it is called, one after the other.
use Rattle.std.specs.Prelude.{◌≡◌, Bool, List, ◌++◌, drop, length, Option, Some, None}
use Rattle.mdr_core.specs.declared.types.Ty.{Ty}
use Rattle.mdr_core.specs.declared.value.Value.{Value}
use Rattle.mdr_core.specs.Layout.{chosen, zero_value}
use Rattle.mdr_core.specs.Typing.{Slot}
use Rattle.mdr_meaning.specs.declared.wire.Wire.{Wire}
use Rattle.mdr_meaning.specs.declared.wire.Wire.TheVariants as wire
use Rattle.mdr_meaning.specs.Sides.{framed}
use Rattle.mdr_meaning.specs.Values.{wire_of}
use Rattle.mdr_events.specs.Values.{wires_of}

-- without an argument a zero, and an object's slot no address
abbrev pub before_declared : Ty → Bool → Wire
before_declared ty object = chosen object wire.Null (wire_of (zero_value ty))

abbrev pub slot_start : Ty → Bool → Option Wire → Wire
slot_start ty object None = before_declared ty object
slot_start ty object (Some v) = v

-- so much is done, and the rest of the slots follows
pub record IsFilled (done : List Wire) (rest whole : List Slot) (args : List Wire) : Type 0 where
  pub by : done ++ framed rest (drop (length done) args) ≡ framed whole args

-- the same of the slots' values and the arguments
abbrev pub AreFilled : (done : List Value) → (rest whole : List Slot) → (args : List Value) → Type 0
AreFilled done rest whole args = IsFilled (wires_of done) rest whole (wires_of args)
