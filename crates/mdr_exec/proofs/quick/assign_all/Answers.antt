use Rattle.mdr_exec.proofs.QuickLaws.{list_ends, list_goes}
use Rattle.mdr_exec.proofs.quick.assign_all.Goals as goal

pub returns-then-not-assign_next-clause-ran : goal.returns-then-not-assign_next-clause-ran
returns-then-not-assign_next-clause-ran g c =
    (list_ends g.C.Memory.accesses c.args.program.now c.args.machine.now c.args.memory.now c.args.ticks c.loop-left.machine c.assign_next.new.machine c.loop-left.memory c.assign_next.new.memory c.loop-left.left c.loop-left.invariant
    (c.assign_next.ensures.machine c.if-not-assign_next.true) (c.assign_next.ensures.memory c.if-not-assign_next.true)).runs

pub loop-left-preserved : goal.loop-left-preserved
loop-left-preserved g c =
    list_goes g.C.Memory.accesses c.args.program.now c.args.machine.now c.args.memory.now c.args.ticks c.loop-left.machine c.assign_next.new.machine c.loop-left.memory c.assign_next.new.memory c.loop-left.left c.loop-left.invariant
    c.loop-left-test.true (c.assign_next.ensures.done c.if-not-assign_next.false) c.assign_next.ensures.list
