use Rattle.mdr_source.proofs.OneThing.{one_thing}
use Rattle.mdr_source.proofs.laws.bytes_come_to_one_thing.Goals as goal

pub returns : goal.returns
returns c = one_thing
