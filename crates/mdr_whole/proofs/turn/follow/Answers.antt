use Rattle.std.proofs.Common.{subst}
use Rattle.std.proofs.lemmas.Result.{IfOk-weaker}
use Rattle.mdr_events.specs.declared.event.Event.{Event}
use Rattle.mdr_events.specs.declared.event.Event.TheVariants as event
use Rattle.mdr_events.specs.Going.{LeavesAt}
use Rattle.mdr_exec.specs.Holding.{held_of}
use Rattle.mdr_whole.specs.Going.{half_of, side_of}
use Rattle.mdr_whole.proofs.Turns.{asked_on, crossed_on}
use Rattle.mdr_whole.proofs.turn.follow.Goals as goal

pub answer-next-requires-clause-waiting : goal.answer-next-requires-clause-waiting
answer-next-requires-clause-waiting g c = subst (λ (e : Event). LeavesAt e (held_of c.args.code.program.now c.args.machine.now)) c.in-Service.is c.requires.left

pub tick-requires-clause-ready : goal.tick-requires-clause-ready
tick-requires-clause-ready g c = subst (λ (e : Event). LeavesAt e (held_of c.args.code.program.now c.args.machine.now)) c.in-TicksOut.is c.requires.left

pub returns-in-Service : goal.returns-in-Service
returns-in-Service g c =
    IfOk-weaker c.answer-next.result _ _
    (λ n h. asked_on g.B.Before.tries c.args.code.program.now (half_of c.args.code) (side_of c.args.code) c.args.machine.now c.args.event c.args.world.now (event.Service c.in-Service.asked) c.answer-next.new.machine n c.answer-next.new.world c.in-Service.is h)
    c.answer-next.ensures

pub returns-in-Cross : goal.returns-in-Cross
returns-in-Cross g c = crossed_on g.B.Before.tries c.args.code.program.now (half_of c.args.code) (side_of c.args.code) c.args.machine.now c.args.event c.args.world.now c.in-Cross.crossing c.in-Cross.is
