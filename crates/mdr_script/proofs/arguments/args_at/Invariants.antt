use Rattle.std.proofs.Common.{◌≡◌, suc, length, []}
use Rattle.mdr_script.specs.Lines.{args_from}
use Rattle.mdr_script.proofs.arguments.args_at.Given as goal

abbrev pub invariant-loop-word : goal.invariant-loop-word
invariant-loop-word l = args_from (suc l.most) l.any l.args l.rest ≡ args_from (suc (length l.bytes)) l.any [] l.bytes

abbrev pub decreases-loop-word : goal.decreases-loop-word
decreases-loop-word l = l.most
