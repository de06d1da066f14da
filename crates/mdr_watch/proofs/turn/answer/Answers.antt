use Rattle.std.proofs.Common.{List, subst, sym}
use Rattle.std.proofs.lemmas.Result.{IfOk-weaker}
use Rattle.mdr_core.specs.declared.value.Value.{Value}
use Rattle.mdr_events.specs.Values.{wires_of}
use Rattle.mdr_exec.specs.Holding.{Takes}
use Rattle.mdr_watch.specs.Going.{GoesOnWith, program_in}
use Rattle.mdr_watch.proofs.Turns.{served_on, takes_served}
use Rattle.mdr_watch.proofs.turn.answer.Goals as goal

pub returns-in-Done : goal.returns-in-Done
returns-in-Done c =
    IfOk-weaker c.resume.result _ _
    (λ n h.
    served_on c.args.activation c.args.machine.now c.args.guarded.now c.args.asked.now c.in_ok-served.served c.in-Done.results c.ask.new.guarded c.resume.new.guarded c.resume.new.machine n c.in-Done.is c.in_ok-served.ensures.served
    (subst (λ (rs : List Value). GoesOnWith c.args.activation (wires_of rs) c.args.machine.now c.ask.new.guarded c.resume.new.machine n c.resume.new.guarded) c.as_slice.ensures h))
    c.resume.ensures

pub resume-requires-clause-takes : goal.resume-requires-clause-takes
resume-requires-clause-takes c =
    subst (λ (rs : List Value). Takes (program_in c.args.activation.upcall) c.args.machine.now rs) (sym c.as_slice.ensures)
    (takes_served c.args.activation c.args.machine.now c.args.guarded.now c.args.asked.now c.in_ok-served.served c.in-Done.results c.ask.new.guarded c.in-Done.is c.in_ok-served.ensures.served c.requires.waiting)
