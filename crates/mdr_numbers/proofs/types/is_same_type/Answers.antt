use Rattle.mdr_events.proofs.TypeLaws.{same_tested}
use Rattle.mdr_numbers.proofs.types.is_same_type.Goals as goal

pub returns : goal.returns
returns c = same_tested c.same_type.result c.args.a.now c.args.b.now c.same_type.ensures
