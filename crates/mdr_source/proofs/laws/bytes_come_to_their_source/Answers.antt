use Rattle.mdr_source.proofs.Whose.{come_source, source_comes}
use Rattle.mdr_source.proofs.laws.bytes_come_to_their_source.Goals as goal

pub returns : goal.returns
returns c = λ bytes source. (come_source bytes source, source_comes bytes source)
