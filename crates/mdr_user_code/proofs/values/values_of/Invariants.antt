use Rattle.std.proofs.Common.{◌≡◌, ◌++◌, drop}
use Rattle.mdr_events.specs.Values.{wires_of}
use Rattle.mdr_user_code.proofs.values.values_of.Given as goal

abbrev pub invariant-loop-wire : goal.invariant-loop-wire
invariant-loop-wire l = wires_of l.values ++ drop l.wire-index l.wires ≡ l.wires
