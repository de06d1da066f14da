use Rattle.mdr_whole.specs.Going.{side_of}
use Rattle.std.proofs.Common.{List, subst, sym}
use Rattle.mdr_core.specs.declared.value.Value.{Value}
use Rattle.mdr_events.specs.Values.{wires_of}
use Rattle.mdr_exec.specs.Holding.{Takes}
use Rattle.mdr_whole.specs.Going.{GoesOnWith}
use Rattle.mdr_whole.proofs.Turns.{served_on, takes_served}
use Rattle.mdr_whole.proofs.turn.answer.Goals as goal

pub returns-in_ok-event-in-Done : goal.returns-in_ok-event-in-Done
returns-in_ok-event-in-Done c =
    served_on c.args.code.program.now (side_of c.args.code) c.args.machine.now c.args.asked.now c.args.world.now c.requires.same c.in_ok-served.served c.in-Done.results c.serve.new.world c.resume.new.world c.resume.new.machine
    c.in_ok-event-in-Done.event c.in-Done.is c.in_ok-served.ensures.served
    (subst (λ (rs : List Value). GoesOnWith c.args.code.program.now (side_of c.args.code) (wires_of rs) c.args.machine.now c.serve.new.world c.resume.new.machine c.in_ok-event-in-Done.event c.resume.new.world) c.as_slice.ensures c.in_ok-event-in-Done.ensures)

pub resume-requires-clause-takes : goal.resume-requires-clause-takes
resume-requires-clause-takes c =
    subst (λ (rs : List Value). Takes c.args.code.program.now c.args.machine.now rs) (sym c.as_slice.ensures)
    (takes_served c.args.code.program.now (side_of c.args.code) c.args.machine.now c.args.asked.now c.args.world.now c.requires.same c.in_ok-served.served c.in-Done.results c.serve.new.world
    c.in-Done.is c.in_ok-served.ensures.served c.requires.waiting)
