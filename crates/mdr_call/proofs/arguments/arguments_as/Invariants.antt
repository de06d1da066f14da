use Rattle.std.proofs.Common.{◌≡◌, length}
use Rattle.mdr_faults.specs.Faults.{told}
use Rattle.mdr_call.specs.Arguments.{arguments_from}
use Rattle.mdr_call.proofs.arguments.arguments_as.Given as goal

abbrev pub invariant-loop-argument : goal.invariant-loop-argument
invariant-loop-argument l = (l.i ≡ length l.yielded) × (l.all ≡ told (arguments_from l.place l.types 1 l.yielded))
