use Rattle.mdr_events.specs.Values.{wires_of}
use Rattle.mdr_exec.specs.Halves.{body_in}
use Rattle.mdr_exec.proofs.MakingLaws.{crossing_is, entering_is}
use Rattle.mdr_exec.proofs.calling.goes_to.Goals as goal

pub returns-then-is_entered : goal.returns-then-is_entered
returns-then-is_entered c = entering_is c.args.func (wires_of c.args.args) _ (body_in c.args.calls.program.now c.args.func) c.is_entered.result c.is_entered.ensures c.if-is_entered.true

pub returns-else-is_entered : goal.returns-else-is_entered
returns-else-is_entered c = crossing_is c.args.func (wires_of c.args.args) _ (body_in c.args.calls.program.now c.args.func) c.is_entered.result c.is_entered.ensures c.if-is_entered.false
