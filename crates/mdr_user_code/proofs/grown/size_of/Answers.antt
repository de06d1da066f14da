use Rattle.std.proofs.Common.{◌*◌, ◌≤◌, subst, sym}
use Rattle.mdr_user_code.proofs.GrownLaws.{shape_named, shape_small, sizes}
use Rattle.mdr_user_code.proofs.grown.size_of.Goals as goal

pub cells_of-requires-clause-in_table : goal.cells_of-requires-clause-in_table
cells_of-requires-clause-in_table c = shape_named c.args.program.now c.args.block c.requires.shaped

pub product-requires : goal.product-requires
product-requires c = shape_small c.args.program.now c.args.block c.cells_of.result c.cells_of.ensures c.requires.shaped

pub returns : goal.returns
returns c = sizes c.args.program.now c.args.block c.cells_of.result c.product.result c.cells_of.ensures c.product.ensures
