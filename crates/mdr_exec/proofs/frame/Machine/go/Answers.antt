use Rattle.std.proofs.Common.{◌-◌, ap, refl}
use Rattle.mdr_exec.specs.Going.{stepped_as}
use Rattle.mdr_exec.specs.Halves.{side_in}
use Rattle.mdr_exec.specs.Holding.{held_of}
use Rattle.mdr_exec.proofs.TurnLaws.{run_answers, run_wants}
use Rattle.mdr_exec.proofs.frame.Machine.go.Goals as goal

pub returns-in-Came-clause-ran : goal.returns-in-Came-clause-ran
returns-in-Came-clause-ran g c =
    run_answers g.C.Memory.accesses (side_in c.args.self.now.side c.args.halves.now c.args.program.now) c.args.program.now (held_of c.args.program.now c.args.self.now) c.run_on.new.machine c.args.memory.now c.run_on.new.memory c.args.ticks
    (c.args.ticks - c.in-Came.left) (stepped_as c.in_ok-ran.ran) c.in-Came.event c.in-Came.left c.event_of.result c.event_of.result (ap stepped_as c.in-Came.is) c.in_ok-ran.ensures.ran refl c.event_of.ensures refl

pub returns-in-Wants-clause-ran : goal.returns-in-Wants-clause-ran
returns-in-Wants-clause-ran g c =
    run_wants g.C.Memory.accesses (side_in c.args.self.now.side c.args.halves.now c.args.program.now) c.args.program.now (held_of c.args.program.now c.args.self.now) c.run_on.new.machine c.args.memory.now c.run_on.new.memory c.args.ticks
    c.args.ticks (stepped_as c.in_ok-ran.ran) c.in-Wants.at (ap stepped_as c.in-Wants.is) c.in_ok-ran.ensures.ran refl
