use Rattle.mdr_core.specs.Folds.{codes_of}
use Rattle.mdr_exec.specs.Holding.{held_of}
use Rattle.mdr_exec.proofs.KeepingLaws.{stop_told}
use Rattle.mdr_exec.proofs.statement.do_turn.Goals as goal

pub returns : goal.returns
returns g c = λ side known.
    stop_told g.C.Memory.accesses side c.args.program.now c.args.machine.now (held_of c.args.program.now c.args.machine.now) (held_of c.args.program.now c.begin_loop.new.machine) c.args.memory.now c.args.memory.now c.args.turn.number
    c.in_ok-came.came c.stopped.result c.stopped.ensures
    (c.in_ok-came.ensures side c.args.turn.number (codes_of c.args.turn.step.now) (codes_of c.args.turn.body.now) known c.requires.stands)
