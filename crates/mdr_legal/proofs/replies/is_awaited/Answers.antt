use Rattle.mdr_legal.proofs.Seen.{awaited_at}
use Rattle.mdr_legal.proofs.replies.is_awaited.Goals as goal

pub returns : goal.returns
returns c = awaited_at c.args.standing c.args.ticks c.min-told.result c.min-told.ensures
