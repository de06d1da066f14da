use Rattle.std.proofs.Common.{option_copied, ◌∙◌, ap, sym}
use Rattle.mdr_exec.specs.Holding.{block_of}
use Rattle.mdr_exec.proofs.TurningLaws.{left_on, listed_ends, listed_stands, ticked_on}
use Rattle.mdr_exec.proofs.turning.turned.Goals as goal

pub by_test-requires-clause-stands : goal.by_test-requires-clause-stands
by_test-requires-clause-stands g c =
    listed_stands c.args.list.now (block_of c.args.program.now c.args.machine.now.top) c.args.machine.now.top.next c.in-Some.statement.now c.requires.list (sym (ap option_copied c.in-Some.is) ∙ c.statement_at.ensures)

pub leave_at_once-requires-clause-ends : goal.leave_at_once-requires-clause-ends
leave_at_once-requires-clause-ends g c =
    listed_ends c.args.list.now (block_of c.args.program.now c.args.machine.now.top) c.args.machine.now.top.next c.requires.list (sym (ap option_copied c.in-None.is) ∙ c.statement_at.ensures)

pub returns-then-branch-clause-ran : goal.returns-then-branch-clause-ran
returns-then-branch-clause-ran g c =
    ticked_on g.C.Memory.accesses c.args.program.now c.args.machine.now c.by_test.new.machine c.args.memory.now c.args.memory.now c.args.left c.if-left-eq0.false (c.in_ok-by_test-in-Some.ensures.done c.if-branch.true)

pub returns-then-leave_at_once-clause-ran : goal.returns-then-leave_at_once-clause-ran
returns-then-leave_at_once-clause-ran g c =
    left_on g.C.Memory.accesses c.args.program.now c.args.machine.now c.leave_at_once.new.machine c.args.memory.now c.args.memory.now c.args.left c.leave_at_once.ensures.same

pub returns-else-leave_at_once-clause-ran : goal.returns-else-leave_at_once-clause-ran
returns-else-leave_at_once-clause-ran g c =
    left_on g.C.Memory.accesses c.args.program.now c.args.machine.now c.leave_at_once.new.machine c.args.memory.now c.args.memory.now c.args.left c.leave_at_once.ensures.same
