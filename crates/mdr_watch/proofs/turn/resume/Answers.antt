use Rattle.mdr_events.specs.Values.{wires_of}
use Rattle.mdr_watch.specs.Going.{program_in}
use Rattle.mdr_watch.specs.Watching.{user_side}
use Rattle.mdr_watch.proofs.Turns.{began, resumed}
use Rattle.mdr_watch.proofs.turn.resume.Goals as goal

pub returns : goal.returns
returns c =
    resumed c.args.activation (wires_of c.args.results.now) c.args.machine.now c.resume.new.self c.go.new.machine c.args.guarded.now c.go.new.guarded c.in_ok-event.event
    (λ f r. c.resume.ensures.goes_on (program_in c.args.activation.upcall) (user_side c.args.activation.upcall) f r)
    (began c.args.activation c.resume.new.self c.go.new.machine c.args.guarded.now c.go.new.guarded c.in_ok-event.event _ c.requires.same (c.resume.ensures.ready (program_in c.args.activation.upcall) c.requires.takes.started) c.in_ok-event.ensures.ran)

pub resume-requires-clause-waiting : goal.resume-requires-clause-waiting
resume-requires-clause-waiting c = c.requires.takes.waiting

pub resume-requires-clause-fit : goal.resume-requires-clause-fit
resume-requires-clause-fit c = c.requires.takes.fit

pub go-requires-clause-ready : goal.go-requires-clause-ready
go-requires-clause-ready c = c.resume.ensures.ready (program_in c.args.activation.upcall) c.requires.takes.started
