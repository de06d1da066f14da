use Rattle.std.proofs.Common.{◌∙◌, ◌+◌, refl, sym}
use Rattle.mdr_core.specs.Folds.{term_of}
use Rattle.mdr_meaning.specs.Bodies.{known_of}
use Rattle.mdr_meaning.specs.Values.{wire_of}
use Rattle.mdr_exec.specs.Holding.{held_of}
use Rattle.mdr_exec.proofs.BeginningLaws.{turn_goes, turn_ends, turn_stops, value_given, stop_given}
use Rattle.mdr_exec.proofs.begin.begin_turn.Goals as goal

pub returns-in_ok-enter-in-Ok : goal.returns-in_ok-enter-in-Ok
returns-in_ok-enter-in-Ok g c =
    turn_goes c.args.program.now c.args.machine.now g.C.Memory.accesses c.args.memory.now c.requires.runs (term_of c.args.test.now) (wire_of c.in-Ok.value) (held_of c.args.program.now c.enter.new.machine)
    (value_given g.C.Memory.accesses c.args.memory.now (known_of c.args.program.now) (term_of c.args.test.now) c.evaluated-value.result c.as_slice.result.now c.args.machine.now.top.slots c.evaluated-value.ensures c.as_slice.ensures c.in-Ok.value c.in-Ok.is)
    (sym c.if-is_true.true ∙ c.is_true.ensures) (c.in_ok-enter-in-Ok.ensures.held c.args.program.now)

pub returns-else-is_true : goal.returns-else-is_true
returns-else-is_true g c =
    turn_ends c.args.program.now c.args.machine.now g.C.Memory.accesses c.args.memory.now c.requires.runs (term_of c.args.test.now) (wire_of c.in-Ok.value) (held_of c.args.program.now c.go_past.new.machine) (c.args.machine.now.top.next + 1)
    (value_given g.C.Memory.accesses c.args.memory.now (known_of c.args.program.now) (term_of c.args.test.now) c.evaluated-value.result c.as_slice.result.now c.args.machine.now.top.slots c.evaluated-value.ensures c.as_slice.ensures c.in-Ok.value c.in-Ok.is)
    (sym c.if-is_true.false ∙ c.is_true.ensures) refl (c.go_past.ensures c.args.program.now)

pub returns-in-Err : goal.returns-in-Err
returns-in-Err g c =
    turn_stops c.args.program.now c.args.machine.now g.C.Memory.accesses c.args.memory.now c.requires.runs (term_of c.args.test.now) c.in-Err.stop (held_of c.args.program.now c.args.machine.now)
    (stop_given g.C.Memory.accesses c.args.memory.now (known_of c.args.program.now) (term_of c.args.test.now) c.evaluated-value.result c.as_slice.result.now c.args.machine.now.top.slots c.evaluated-value.ensures c.as_slice.ensures c.in-Err.stop c.in-Err.is)
