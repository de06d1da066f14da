use Rattle.mdr_express.proofs.Joined.{joined}
use Rattle.mdr_express.proofs.calls.call_of_parts.Goals as goal

pub returns : goal.returns
returns c t args made given = joined (c.in_ok-parts.ensures t args made given) (c.in_ok-call_rule.ensures t args)
