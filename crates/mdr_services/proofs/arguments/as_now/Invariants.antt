use Rattle.std.proofs.Common.{◌≡◌, ◌++◌, drop, map}
use Rattle.mdr_events.specs.Values.{wires_of}
use Rattle.mdr_model.specs.Memory.{normal}
use Rattle.mdr_services.proofs.arguments.as_now.Given as goal

abbrev pub invariant-loop-arg : goal.invariant-loop-arg
invariant-loop-arg l = wires_of l.values ++ map (normal l.world.world.memory) (wires_of (drop l.arg-index l.args)) ≡ map (normal l.world.world.memory) (wires_of l.args)
