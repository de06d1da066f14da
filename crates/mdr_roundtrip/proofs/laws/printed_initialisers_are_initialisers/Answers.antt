use Rattle.mdr_roundtrip.proofs.RereadInits.{inits_reread}
use Rattle.mdr_roundtrip.proofs.laws.printed_initialisers_are_initialisers.Goals as goal

pub returns : goal.returns
returns c = inits_reread
