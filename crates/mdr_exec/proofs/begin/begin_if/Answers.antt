use Rattle.std.proofs.Common.{◌∙◌, ap}
use Rattle.mdr_core.specs.Folds.{term_of}
use Rattle.mdr_meaning.specs.Bodies.{known_of}
use Rattle.mdr_meaning.specs.Values.{wire_of}
use Rattle.mdr_exec.specs.Holding.{held_of, list_entered}
use Rattle.mdr_exec.proofs.BeginningLaws.{branch_goes, branch_stops, value_given, stop_given}
use Rattle.mdr_exec.proofs.begin.begin_if.Goals as goal

pub returns-in_ok-enter-in-Ok : goal.returns-in_ok-enter-in-Ok
returns-in_ok-enter-in-Ok g c =
    branch_goes c.args.program.now c.args.machine.now g.C.Memory.accesses c.args.memory.now c.requires.runs (term_of c.args.test.now) (wire_of c.in-Ok.value) c.is_true.result (held_of c.args.program.now c.enter.new.machine)
    (value_given g.C.Memory.accesses c.args.memory.now (known_of c.args.program.now) (term_of c.args.test.now) c.evaluated-value.result c.as_slice.result.now c.args.machine.now.top.slots c.evaluated-value.ensures c.as_slice.ensures c.in-Ok.value c.in-Ok.is)
    c.is_true.ensures (c.in_ok-enter-in-Ok.ensures.held c.args.program.now ∙ ap (list_entered c.args.program.now c.args.machine.now) c.branch-is_true.ensures)

pub returns-in-Err : goal.returns-in-Err
returns-in-Err g c =
    branch_stops c.args.program.now c.args.machine.now g.C.Memory.accesses c.args.memory.now c.requires.runs (term_of c.args.test.now) c.in-Err.stop (held_of c.args.program.now c.args.machine.now)
    (stop_given g.C.Memory.accesses c.args.memory.now (known_of c.args.program.now) (term_of c.args.test.now) c.evaluated-value.result c.as_slice.result.now c.args.machine.now.top.slots c.evaluated-value.ensures c.as_slice.ensures c.in-Err.stop c.in-Err.is)
