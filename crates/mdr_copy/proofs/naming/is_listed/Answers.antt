use Rattle.mdr_copy.proofs.Births.{found_listed, not_listed}
use Rattle.mdr_copy.proofs.naming.is_listed.Goals as goal

pub returns-in-Ok : goal.returns-in-Ok
returns-in-Ok c = found_listed c.args.serials.now c.args.serial _ c.requires c.in-Ok.ensures.position

pub returns-in-Err : goal.returns-in-Err
returns-in-Err c = not_listed c.args.serials.now c.args.serial _ c.requires c.in-Err.ensures.position
