use Rattle.mdr_access.proofs.OwnedLaws.{exposed_field}
use Rattle.mdr_access.proofs.owned.is_exposed.Goals as goal

pub returns-in-Field : goal.returns-in-Field
returns-in-Field c = exposed_field c.args.program.now c.args.exposed.now c.args.key c.in-Field.field-0 c.in-Field.field-1 c.is_listed.result c.in-Field.is c.requires c.is_listed.ensures
