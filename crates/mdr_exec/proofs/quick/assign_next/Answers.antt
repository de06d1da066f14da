use Rattle.std.proofs.Common.{option_copied, ap}
use Rattle.mdr_exec.specs.Holding.{block_of}
use Rattle.mdr_exec.proofs.QuickLaws.{assign_stands}
use Rattle.mdr_exec.proofs.quick.assign_next.Goals as goal

pub returns-in-Assign-clause-done : goal.returns-in-Assign-clause-done
returns-in-Assign-clause-done g c = λ did side known.
    c.assign.ensures.done did side c.in-Some.statement.now.number known
    (assign_stands c.args.list.now (block_of c.args.program.now c.args.machine.now.top) c.args.machine.now.top.next (option_copied c.statement_at.result) c.in-Some.statement.now c.in-Assign.p c.in-Assign.e
    c.requires.list c.statement_at.ensures (ap option_copied c.in-Some.is) c.in-Assign.is)
