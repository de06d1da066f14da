use Rattle.mdr_exec.specs.Holding.{held_of}
use Rattle.std.proofs.Common.{◌∙◌, ap, sym, subst}
use Rattle.mdr_events.specs.Steps.{Steps}
use Rattle.mdr_exec.specs.Entering.{filling}
use Rattle.mdr_exec.specs.Events.{came_as}
use Rattle.mdr_exec.proofs.TurnLaws.{filling_is, step_told}
use Rattle.mdr_exec.proofs.turn.step_fills.Goals as goal

pub returns-in_ok-event-in-Fills : goal.returns-in_ok-event-in-Fills
returns-in_ok-event-in-Fills g c = λ side.
    step_told g.C.Memory.accesses side (held_of c.args.program.now c.args.machine.now) (held_of c.args.program.now c.fill.new.machine) c.args.memory.now c.fill.new.memory c.args.left c.in_ok-event-in-Fills.event c.with_event.result c.with_event.ensures
    (subst (λ h. Steps g.C.Memory.accesses side h c.args.memory.now (came_as c.in_ok-event-in-Fills.event) (held_of c.args.program.now c.fill.new.machine) c.fill.new.memory)
    (ap (λ ps. filling c.args.program.now (record { side = c.args.machine.now.side; front = c.replace-front.new.dest; top = c.args.machine.now.top; below = c.args.machine.now.below; used = c.args.machine.now.used }) ps) c.as_slice.ensures
    ∙ filling_is c.args.program.now c.args.machine.now c.replace-front.new.dest c.in-Fills.pointers (sym c.replace-front.ensures.value ∙ c.in-Fills.is)) (c.in_ok-event-in-Fills.ensures side))
