use Rattle.mdr_cells.proofs.SetLaws.{found, missed}
use Rattle.mdr_cells.proofs.set.is_among.Goals as goal

pub returns-in-Ok : goal.returns-in-Ok
returns-in-Ok c = found c.args.names.now c.args.name _ c.in-Ok.ensures.bound c.in-Ok.ensures.position

pub returns-in-Err : goal.returns-in-Err
returns-in-Err c = missed c.args.names.now c.args.name _ c.requires c.in-Err.ensures.position
