use Rattle.mdr_source.proofs.Something.{something}
use Rattle.mdr_source.proofs.laws.bytes_come_to_something.Goals as goal

pub returns : goal.returns
returns c = something
