use Rattle.mdr_over_bytes.proofs.StandAlone.{stand_alone}
use Rattle.mdr_over_bytes.proofs.laws.no_legal_reply_begins_another.Goals as goal

pub returns : goal.returns
returns c = stand_alone
