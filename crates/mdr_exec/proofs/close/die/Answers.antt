use Rattle.std.proofs.Common.{◌∙◌}
use Rattle.mdr_exec.proofs.ClosingLaws.{died_asked, died_here}
use Rattle.mdr_exec.proofs.close.die.Goals as goal

pub returns-then-asks_on-clause-step : goal.returns-then-asks_on-clause-step
returns-then-asks_on-clause-step g c =
    died_asked g.C.Memory.accesses c.args.machine.now c.args.flow c.flow_after-left.result c.replace-born.new.dest c.replace-born.result c.as_slice.result.now c.args.memory.now c.is_empty.result c.asks_on.result
    c.requires.unwinds (c.replace-born.ensures.after ∙ c.new.ensures) c.is_empty.ensures c.if-is_empty.false c.replace-born.ensures.value c.as_slice.ensures c.flow_after-left.ensures c.asks_on.ensures c.if-asks_on.true

pub returns-clause-step : goal.returns-clause-step
returns-clause-step g c =
    died_here g.C.Memory.accesses c.args.machine.now c.args.flow c.flow_after-left.result c.replace-born.new.dest c.replace-born.result c.as_slice.result.now c.args.memory.now c.is_empty.result c.asks_on.result
    c.requires.unwinds (c.replace-born.ensures.after ∙ c.new.ensures) c.is_empty.ensures c.if-is_empty.false c.replace-born.ensures.value c.as_slice.ensures c.flow_after-left.ensures c.asks_on.ensures c.if-asks_on.false
    c.as_slice-2.result.now c.as_slice-2.ensures c.death.new.self c.death.ensures
