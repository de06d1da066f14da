use Rattle.std.proofs.Common.{◌≡◌, drop}
use Rattle.mdr_events.specs.Values.{wires_of}
use Rattle.mdr_exec.specs.Effects.{fills_of}
use Rattle.mdr_exec.specs.Storing.{with_slots}
use Rattle.mdr_exec.proofs.params.fill_all.Given as goal

-- what is left of the parameters is filled from here on
abbrev pub invariant-loop-i : goal.invariant-loop-i
invariant-loop-i g l =
    fills_of g.C.Memory.accesses (drop l.i l.params) (wires_of (drop l.i l.pointers)) (with_slots l.slots (wires_of l.born)) l.memory
    ≡ fills_of g.C.Memory.accesses l.params (wires_of l.pointers) (with_slots l.fn.slots (wires_of l.fn.born)) l.fn.memory
