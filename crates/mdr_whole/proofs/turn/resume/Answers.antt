use Rattle.mdr_events.specs.Values.{wires_of}
use Rattle.mdr_whole.specs.Going.{side_of}
use Rattle.mdr_whole.proofs.Turns.{began, resumed}
use Rattle.mdr_whole.proofs.turn.resume.Goals as goal

pub returns : goal.returns
returns c =
    resumed c.args.code.program.now (side_of c.args.code) (wires_of c.args.results.now) c.args.machine.now c.resume.new.self c.go.new.machine c.args.world.now c.go.new.world c.in_ok-event.event
    (λ f r. c.resume.ensures.goes_on c.args.code.program.now (side_of c.args.code) f r)
    (began c.args.code.program.now (side_of c.args.code) c.resume.new.self c.go.new.machine c.args.world.now c.go.new.world c.in_ok-event.event _ c.requires.same (c.resume.ensures.ready c.args.code.program.now c.requires.takes.started) c.in_ok-event.ensures.ran)

pub resume-requires-clause-waiting : goal.resume-requires-clause-waiting
resume-requires-clause-waiting c = c.requires.takes.waiting

pub resume-requires-clause-fit : goal.resume-requires-clause-fit
resume-requires-clause-fit c = c.requires.takes.fit

pub go-requires-clause-ready : goal.go-requires-clause-ready
go-requires-clause-ready c = c.resume.ensures.ready c.args.code.program.now c.requires.takes.started
