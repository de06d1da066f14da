use Rattle.mdr_core.specs.Folds.{lvalue_of, term_of}
use Rattle.mdr_meaning.specs.Bodies.{known_of}
use Rattle.mdr_exec.specs.Holding.{held_of}
use Rattle.mdr_exec.proofs.BeginningLaws.{stop_given}
use Rattle.mdr_exec.proofs.StoringLaws.{value_stops}
use Rattle.mdr_exec.proofs.assign.begin_assign.Goals as goal

pub returns-in-Err : goal.returns-in-Err
returns-in-Err g c = λ side n known is.
    value_stops g.C.Memory.accesses c.args.program.now c.args.machine.now c.args.memory.now c.requires.runs (lvalue_of c.args.p.now) c.in-Err.stop (held_of c.args.program.now c.args.machine.now) side n (term_of c.args.e.now)
    (stop_given g.C.Memory.accesses c.args.memory.now (known_of c.args.program.now) (term_of c.args.e.now) c.evaluated-value.result c.as_slice.result.now c.args.machine.now.top.slots c.evaluated-value.ensures c.as_slice.ensures c.in-Err.stop c.in-Err.is)
    known is
