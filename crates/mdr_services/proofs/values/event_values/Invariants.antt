use Rattle.std.proofs.Common.{◌≡◌, ◌++◌, drop, map}
use Rattle.mdr_events.specs.Values.{wires_of}
use Rattle.mdr_model.specs.Values.{value_of}
use Rattle.mdr_services.proofs.values.event_values.Given as goal

abbrev pub invariant-loop-value : goal.invariant-loop-value
invariant-loop-value l = l.noted ++ map value_of (wires_of (drop l.value-index l.values)) ≡ map value_of (wires_of l.values)
