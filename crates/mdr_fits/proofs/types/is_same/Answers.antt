use Rattle.mdr_fits.proofs.TypeTests.{same_tested}
use Rattle.mdr_fits.proofs.types.is_same.Goals as goal

pub returns : goal.returns
returns c = same_tested c.same_type.result c.args.one.now c.args.other.now c.same_type.ensures
