use Rattle.std.proofs.Common.{◌≡◌, ◌++◌, drop, map}
use Rattle.mdr_operand.specs.Written.{lines_of}
use Rattle.mdr_body.specs.Locals.{parameter_taken}
use Rattle.mdr_body.proofs.locals.parameter_objects.Given as goal

abbrev pub invariant-loop-d : goal.invariant-loop-d
invariant-loop-d l = l.objects ++ map (parameter_taken (lines_of l.body)) (drop l.d-index l.ds) ≡ map (parameter_taken (lines_of l.body)) l.ds
