-- protocol
-- Values in hand, as trees have them.
use Rattle.std.specs.Prelude.{List, map}
use Rattle.mdr_core.specs.declared.value.Value.{Value}
use Rattle.mdr_meaning.specs.declared.wire.Wire.{Wire}
use Rattle.mdr_meaning.specs.Values.{wire_of}

abbrev pub wires_of : List Value → List Wire
wires_of vs = map wire_of vs
