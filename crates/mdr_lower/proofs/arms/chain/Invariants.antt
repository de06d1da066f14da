use Rattle.std.proofs.Common.{◌≡◌, length}
use Rattle.mdr_lower.specs.Apart.{chain}
use Rattle.mdr_lower.proofs.arms.chain.Given as goal

abbrev pub invariant-loop-arm : goal.invariant-loop-arm
invariant-loop-arm l = chain l.number l.arms.items l.last ≡ chain l.number l.initial.arms.items l.initial.last

abbrev pub decreases-loop-arm : goal.decreases-loop-arm
decreases-loop-arm l = length l.arms.items
