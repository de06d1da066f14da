use Rattle.std.proofs.Common.{◌≡◌, length, []}
use Rattle.mdr_script.specs.Rules.{effects_from}
use Rattle.mdr_script.proofs.rules.effects_at.Given as goal

abbrev pub invariant-loop-most : goal.invariant-loop-most
invariant-loop-most l = effects_from l.most l.any l.effects l.rest ≡ effects_from (length l.bytes) l.any [] l.bytes

abbrev pub decreases-loop-most : goal.decreases-loop-most
decreases-loop-most l = l.most
