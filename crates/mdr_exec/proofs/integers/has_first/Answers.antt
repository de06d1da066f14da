use Rattle.std.proofs.Common.{sym}
use Rattle.mdr_exec.proofs.IntegerLaws.{first_there}
use Rattle.mdr_exec.proofs.integers.has_first.Goals as goal

pub returns-in-Some : goal.returns-in-Some
returns-in-Some c = first_there c.args.program.now c.args.g c.in-Some.def.now (sym c.in-Some.ensures)
