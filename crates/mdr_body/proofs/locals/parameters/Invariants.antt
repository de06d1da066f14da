use Rattle.std.proofs.Common.{◌≡◌, ◌++◌, drop}
use Rattle.mdr_operand.specs.Written.{lines_of}
use Rattle.mdr_body.specs.Locals.{parameters_from}
use Rattle.mdr_body.proofs.locals.parameters.Given as goal

abbrev pub invariant-loop-i : goal.invariant-loop-i
invariant-loop-i l = l.names ++ parameters_from l.scope (lines_of l.body) l.i (drop l.i l.ds) ≡ parameters_from l.scope (lines_of l.body) 0 l.ds
