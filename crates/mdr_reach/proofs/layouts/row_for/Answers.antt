use Rattle.mdr_reach.proofs.RowLaws.{row_is}
use Rattle.mdr_reach.proofs.layouts.row_for.Goals as goal

pub returns : goal.returns
returns c = row_is c.args.program.now c.args.touched.now c.args.layouts.now c.requires c.args.ty c.row_numbered.result.now c.row_numbered.ensures
