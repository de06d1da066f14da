use Rattle.std.proofs.Common.{◌≡◌, take}
use Rattle.mdr_events.specs.Values.{wires_of}
use Rattle.mdr_kernel_memory.proofs.values.values_of.Given as goal

abbrev pub invariant-loop-wire : goal.invariant-loop-wire
invariant-loop-wire l = wires_of l.values ≡ take l.wire-index l.wires
