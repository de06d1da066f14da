use Rattle.std.proofs.Common.{ap, unwrap_or}
use Rattle.mdr_exec.proofs.TurningLaws.{ran_turn}
use Rattle.mdr_exec.proofs.turning.run_integers.Goals as goal

pub returns-in-None-clause-ran : goal.returns-in-None-clause-ran
returns-in-None-clause-ran g c =
    (ran_turn g.C.Memory.accesses c.args.program.now c.args.machine.now c.args.memory.now c.args.ticks c.loop-turn.machine c.assign_all-left.new.machine c.turned.new.machine c.loop-turn.memory c.assign_all-left.new.memory c.loop-turn.left c.assign_all-left.result c.assign_all-left.result c.in_ok-rest.field-0
    c.loop-turn.invariant c.assign_all-left.ensures.ran c.assign_all-left.ensures.list c.in_ok-rest.ensures.ran c.in_ok-rest.ensures.as_before (ap (λ o. unwrap_or o c.assign_all-left.result) c.in-None.is)).ran

pub loop-turn-preserved : goal.loop-turn-preserved
loop-turn-preserved g c =
    ran_turn g.C.Memory.accesses c.args.program.now c.args.machine.now c.args.memory.now c.args.ticks c.loop-turn.machine c.assign_all-left.new.machine c.turned.new.machine c.loop-turn.memory c.assign_all-left.new.memory c.loop-turn.left c.assign_all-left.result c.in-Some-2.rest c.in_ok-rest.field-0
    c.loop-turn.invariant c.assign_all-left.ensures.ran c.assign_all-left.ensures.list c.in_ok-rest.ensures.ran c.in_ok-rest.ensures.as_before (ap (λ o. unwrap_or o c.assign_all-left.result) c.in-Some-2.is)
