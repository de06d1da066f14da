use Rattle.mdr_exec.proofs.ClosingLaws.{died_with, outlived}
use Rattle.mdr_exec.proofs.close.after_deaths.Goals as goal

pub returns-then-is_among : goal.returns-then-is_among
returns-then-is_among c = died_with c.args.dead.now c.args.value c.in-Ptr.view c.is_among.result c.in-Ptr.is c.is_among.ensures c.if-is_among.true

pub returns-else-is_among : goal.returns-else-is_among
returns-else-is_among c = outlived c.args.dead.now c.args.value c.in-Ptr.view c.is_among.result c.in-Ptr.is c.is_among.ensures c.if-is_among.false
