use Rattle.std.proofs.Common.{◌∙◌, ap}
use Rattle.mdr_mem.specs.Contents.{births_in}
use Rattle.mdr_world.proofs.StorageLaws.{births-death}
use Rattle.mdr_world.proofs.storage.with_death.Goals as goal

pub returns-clause-counted : goal.returns-clause-counted
returns-clause-counted c = ap births_in c.and.ensures ∙ births-death c.args.lives.now c.args.serial
