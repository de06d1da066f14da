use Rattle.mdr_events.specs.Values.{wires_of}
use Rattle.mdr_exec.specs.Halves.{is_kernel, is_own}
use Rattle.mdr_meaning.specs.Bodies.{body_of}
use Rattle.mdr_whole.specs.Going.{side_of}
use Rattle.mdr_whole.proofs.Turns.{is_started, own_here, there_here}
use Rattle.mdr_whole.proofs.calls.started.Goals as goal

pub start-requires-clause-body : goal.start-requires-clause-body
start-requires-clause-body c = there_here (is_own c.args.code.side (is_kernel c.args.code.halves.now c.args.func)) (body_of c.args.code.program.now c.args.func) c.requires

pub returns : goal.returns
returns c =
    is_started c.args.code.program.now (side_of c.args.code) c.args.func (wires_of c.args.args.now) c.args.depth c.new-machine.result c.start.new.self
    (λ f r. c.new-machine.ensures c.args.code.program.now (side_of c.args.code) f r)
    (own_here (is_own c.args.code.side (is_kernel c.args.code.halves.now c.args.func)) (body_of c.args.code.program.now c.args.func) c.requires) c.in_ok-start.ensures.begins c.in_ok-start.ensures.ready
