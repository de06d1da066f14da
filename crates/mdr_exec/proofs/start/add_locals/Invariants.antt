use Rattle.std.proofs.Common.{List, map, drop}
use Rattle.mdr_core.specs.Typing.{Slot, slot_of_local}
use Rattle.mdr_events.specs.Values.{wires_of}
use Rattle.mdr_exec.specs.Starting.{IsFilled}
use Rattle.mdr_exec.proofs.start.add_locals.Given as goal

abbrev pub invariant-loop-local : goal.invariant-loop-local
invariant-loop-local l =
    (whole : List Slot) → IsFilled (wires_of l.fn.slots) (map slot_of_local l.locals) whole (wires_of l.args)
    → IsFilled (wires_of l.slots) (map slot_of_local (drop l.local-index l.locals)) whole (wires_of l.args)
