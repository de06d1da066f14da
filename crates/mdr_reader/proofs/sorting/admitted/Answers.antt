use Rattle.mdr_reader.proofs.Admitting.{changed, kept}
use Rattle.mdr_reader.proofs.sorting.admitted.Goals as goal

pub returns-then-is : goal.returns-then-is
returns-then-is c = changed c.args.sort c.remote.result c.is.result c.args.halves c.is.ensures c.if-is.true c.remote.ensures

pub returns-else-is : goal.returns-else-is
returns-else-is c = kept c.args.sort c.is.result c.args.halves c.is.ensures c.if-is.false
