use Rattle.mdr_access.specs.Shared.{SharesMarked}
use Rattle.mdr_access.proofs.shared.share_marked.Given as goal

abbrev pub invariant-loop-at : goal.invariant-loop-at
invariant-loop-at l = SharesMarked l.led l.leading l.func l.fn.firsts.items l.firsts.items
