use Rattle.mdr_events.specs.Values.{wires_of}
use Rattle.mdr_exec.specs.Halves.{side_at}
use Rattle.mdr_exec.proofs.MakingLaws.{direct_goes, direct_stops}
use Rattle.mdr_exec.proofs.calling.direct.Goals as goal

pub returns-then-calls-lt256 : goal.returns-then-calls-lt256
returns-then-calls-lt256 g c =
    direct_goes c.args.calls.program.now c.args.calls.machine.now g.C.Memory.accesses c.args.memory.now (side_at c.args.calls) c.args.func (wires_of c.args.args) _ c.if-calls-lt256.true c.goes_to.ensures

pub returns-else-calls-lt256 : goal.returns-else-calls-lt256
returns-else-calls-lt256 g c =
    direct_stops c.args.calls.program.now c.args.calls.machine.now g.C.Memory.accesses c.args.memory.now (side_at c.args.calls) c.args.func (wires_of c.args.args) c.if-calls-lt256.false
