use Rattle.std.proofs.Common.{◌≡◌}
use Rattle.mdr_program.specs.Parts.{marked}
use Rattle.mdr_program.proofs.parts.marked.Given as goal

abbrev pub invariant-loop-p : goal.invariant-loop-p
invariant-loop-p l = l.all ≡ marked l.objects 0 l.yielded
