use Rattle.mdr_exec.specs.Holding.{held_of}
use Rattle.mdr_watch.proofs.Turns.{ran_user}
use Rattle.mdr_watch.proofs.turn.go.Goals as goal

pub returns-clause-ran : goal.returns-clause-ran
returns-clause-ran c =
    ran_user c.args.upcall c.requires.fit c.as_slice-halves.result.now c.as_slice-halves.ensures c.args.machine.now c.go.new.self c.args.guarded.now c.go.new.memory c.args.ticks c.in_ok-event.event _ c.in_ok-event.ensures.ran

pub go-requires-clause-ready : goal.go-requires-clause-ready
unfolding held_of
go-requires-clause-ready c = c.requires.ready
