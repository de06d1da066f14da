use Rattle.std.proofs.Common.{length}
use Rattle.mdr_reach.proofs.ChainLaws.{Sought}
use Rattle.mdr_reach.proofs.chains.is_linked.Given as goal

abbrev pub invariant-loop-number : goal.invariant-loop-number
invariant-loop-number l = Sought l.names (length l.chains.lasts.items) l.name l.number

abbrev pub decreases-loop-number : goal.decreases-loop-number
decreases-loop-number l = l.number
