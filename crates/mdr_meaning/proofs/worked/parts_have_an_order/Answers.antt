use Rattle.mdr_meaning.proofs.StopProofs.{parts_have_an_order}
use Rattle.mdr_meaning.proofs.worked.parts_have_an_order.Goals as goal

pub returns : goal.returns
returns c = parts_have_an_order
