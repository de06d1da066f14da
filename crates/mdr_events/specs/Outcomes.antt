-- protocol
-- What evaluations in code come to, as definitions have it.
use Rattle.std.specs.Prelude.{List, Result, Ok, Err}
use Rattle.mdr_core.specs.declared.stop.StopKind.{StopKind}
use Rattle.mdr_core.specs.declared.value.Value.{Value}
use Rattle.mdr_meaning.specs.declared.wire.Wire.{Wire}
use Rattle.mdr_meaning.specs.Values.{wire_of}
use Rattle.mdr_events.specs.Values.{wires_of}

-- a value, or the first stop
abbrev pub wired : Result Value StopKind → Result Wire StopKind
wired (Ok v) = Ok (wire_of v)
wired (Err kind) = Err kind

abbrev pub all_wired : Result (List Value) StopKind → Result (List Wire) StopKind
all_wired (Ok vs) = Ok (wires_of vs)
all_wired (Err kind) = Err kind

-- a memory in which a store was made, or its stop
abbrev pub when_made : {M : Type 0} → Result (Unit {0}) StopKind → M → Result M StopKind
when_made (Ok done) m = Ok m
when_made (Err kind) m = Err kind
