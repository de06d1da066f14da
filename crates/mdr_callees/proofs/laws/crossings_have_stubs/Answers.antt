use Rattle.mdr_callees.proofs.HalfLaws.{stubs}
use Rattle.mdr_callees.proofs.laws.crossings_have_stubs.Goals as goal

pub returns : goal.returns
returns c = stubs
