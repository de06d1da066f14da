use Rattle.std.proofs.Common.{◌≡◌, ◌++◌, drop}
use Rattle.mdr_events.specs.Values.{wires_of}
use Rattle.mdr_kernel_memory.proofs.values.wires_of.Given as goal

abbrev pub invariant-loop-value : goal.invariant-loop-value
invariant-loop-value l = l.wires ++ wires_of (drop l.value-index l.values) ≡ wires_of l.values
