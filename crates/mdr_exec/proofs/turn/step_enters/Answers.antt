use Rattle.mdr_exec.specs.Holding.{held_of}
use Rattle.std.proofs.Common.{◌∙◌, sym}
use Rattle.mdr_exec.proofs.TurnLaws.{step_told}
use Rattle.mdr_exec.proofs.turn.step_enters.Goals as goal

pub returns : goal.returns
returns g c = λ side known asks.
    step_told g.C.Memory.accesses side (held_of c.args.program.now c.args.machine.now) (held_of c.args.program.now c.enter_function.new.machine) c.args.memory.now c.enter_function.new.memory c.args.left c.in_ok-event.event c.with_event.result c.with_event.ensures
    (c.in_ok-event.ensures side known (asks ∙ sym c.asks_on-asks.ensures))
