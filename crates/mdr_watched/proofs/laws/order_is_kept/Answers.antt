use Rattle.mdr_watched.proofs.OrderLaws.{order_is_kept}
use Rattle.mdr_watched.proofs.laws.order_is_kept.Goals as goal

pub returns : goal.returns
returns c = order_is_kept
