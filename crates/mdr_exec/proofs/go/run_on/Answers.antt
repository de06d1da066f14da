use Rattle.std.proofs.Common.{refl}
use Rattle.mdr_exec.specs.declared.turn.Stepped.TheVariants as stepped
use Rattle.mdr_exec.proofs.TurnLaws.{run_begins, run_ends, run_goes}
use Rattle.mdr_exec.proofs.go.run_on.Goals as goal

pub loop-turns-init : goal.loop-turns-init
loop-turns-init g c = run_begins g.C.Memory.accesses c.args.halves.now c.args.program.now c.args.machine.now c.args.memory.now c.args.ticks c.args.machine.now.side refl

pub loop-turns-preserved : goal.loop-turns-preserved
loop-turns-preserved g c = run_goes g.C.Memory.accesses c.args.halves.now c.args.program.now c.args.machine.now c.args.memory.now c.args.ticks c.args.machine.now.side c.loop-turns.machine c.step.new.machine c.loop-turns.memory c.step.new.memory c.loop-turns.left c.in_ok-stepped.stepped c.loop-turns.invariant c.in_ok-stepped.ensures c.in-Goes.rest c.in-Goes.is

pub returns-in-Came-clause-ran : goal.returns-in-Came-clause-ran
returns-in-Came-clause-ran g c = run_ends g.C.Memory.accesses c.args.halves.now c.args.program.now c.args.machine.now c.args.memory.now c.args.ticks c.args.machine.now.side c.loop-turns.machine c.step.new.machine c.loop-turns.memory c.step.new.memory c.loop-turns.left c.in_ok-stepped.stepped c.loop-turns.invariant c.in_ok-stepped.ensures (stepped.Came c.in-Came.event c.in-Came.rest) c.in-Came.is

pub returns-in-Wants-clause-ran : goal.returns-in-Wants-clause-ran
returns-in-Wants-clause-ran g c = run_ends g.C.Memory.accesses c.args.halves.now c.args.program.now c.args.machine.now c.args.memory.now c.args.ticks c.args.machine.now.side c.loop-turns.machine c.step.new.machine c.loop-turns.memory c.step.new.memory c.loop-turns.left c.in_ok-stepped.stepped c.loop-turns.invariant c.in_ok-stepped.ensures (stepped.Wants c.in-Wants.at) c.in-Wants.is

pub returns-in-Came-clause-side : goal.returns-in-Came-clause-side
returns-in-Came-clause-side g c = c.loop-turns.invariant.same

pub returns-in-Wants-clause-side : goal.returns-in-Wants-clause-side
returns-in-Wants-clause-side g c = c.loop-turns.invariant.same

pub step-requires-clause-ready : goal.step-requires-clause-ready
step-requires-clause-ready g c = c.loop-turns.invariant.runs.leaves c.requires.ready
