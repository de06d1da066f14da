use Rattle.mdr_exec.specs.Holding.{held_of}
use Rattle.mdr_user_code.proofs.ReadyLaws.{ran_user}
use Rattle.mdr_user_code.proofs.running.go.Goals as goal

pub returns-clause-ran : goal.returns-clause-ran
returns-clause-ran c =
    ran_user c.args.scene.program.now c.args.scene.plan.now c.requires.fit c.as_slice-halves.result.now c.as_slice-halves.ensures c.args.machine.now c.go.new.self c.args.memory.now c.go.new.memory c.args.ticks c.in_ok-event.event _ c.in_ok-event.ensures.ran

pub go-requires-clause-ready : goal.go-requires-clause-ready
unfolding held_of
go-requires-clause-ready c = c.requires.ready
