use Rattle.std.proofs.Common.{◌∙◌}
use Rattle.mdr_copy.proofs.Places.{cell_there, cell_nowhere}
use Rattle.mdr_copy.proofs.store.cell_in.Goals as goal

pub returns-in-Some : goal.returns-in-Some
returns-in-Some c = c.cell_of.ensures ∙ cell_there (record { serial = c.args.serial; index = c.args.index }) c.args.blocks.now c.in-Some.i c.index-blocks-i.result c.in-Some.ensures.stands c.index-blocks-i.is

pub returns-in-None : goal.returns-in-None
returns-in-None c = cell_nowhere (record { serial = c.args.serial; index = c.args.index }) c.args.blocks.now c.in-None.ensures.stands
