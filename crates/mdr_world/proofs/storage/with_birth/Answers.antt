use Rattle.std.proofs.Common.{◌∙◌, ap}
use Rattle.mdr_mem.specs.Contents.{births_in}
use Rattle.mdr_world.proofs.StorageLaws.{births-birth}
use Rattle.mdr_world.proofs.storage.with_birth.Goals as goal

pub returns-clause-counted : goal.returns-clause-counted
returns-clause-counted c = ap births_in c.and.ensures ∙ births-birth c.args.lives.now c.args.cells
