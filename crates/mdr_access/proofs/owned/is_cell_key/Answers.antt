use Rattle.mdr_access.proofs.OwnedLaws.{cell_key, no_cell_key}
use Rattle.mdr_access.proofs.owned.is_cell_key.Goals as goal

pub returns-in-Some : goal.returns-in-Some
returns-in-Some c = cell_key c.args.program.now c.args.ty.now c.in-Some.number c.args.key _ c.requires.sound c.in-Some.ensures c.has_cell.ensures

pub returns-in-None : goal.returns-in-None
returns-in-None c = no_cell_key c.args.program.now c.args.ty.now c.args.key c.requires.few c.in-None.ensures
