use Rattle.std.proofs.Common.{List, ◌++◌, map, drop}
use Rattle.mdr_core.specs.Typing.{Slot, slot_of_param}
use Rattle.mdr_events.specs.Values.{wires_of}
use Rattle.mdr_exec.specs.Starting.{IsFilled}
use Rattle.mdr_exec.proofs.start.add_params.Given as goal

abbrev pub invariant-loop-param : goal.invariant-loop-param
invariant-loop-param l =
    (rest whole : List Slot) → IsFilled (wires_of l.fn.slots) (map slot_of_param l.params ++ rest) whole (wires_of l.args)
    → IsFilled (wires_of l.slots) (map slot_of_param (drop l.param-index l.params) ++ rest) whole (wires_of l.args)
