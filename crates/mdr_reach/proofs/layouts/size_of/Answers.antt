use Rattle.std.proofs.Common.{◌∙◌}
use Rattle.mdr_meaning.specs.Pointers.{size}
use Rattle.mdr_reach.proofs.RowLaws.{size_is}
use Rattle.mdr_reach.proofs.layouts.size_of.Goals as goal

pub returns : goal.returns
unfolding size
returns c = c.cells_of.ensures ∙ size_is c.args.program.now c.args.touched.now c.args.ty c.row_for.result.now c.row_for.ensures
