use Rattle.std.proofs.Common.{◌≡◌, drop, map}
use Rattle.mdr_faults.specs.Faults.{told, followed}
use Rattle.mdr_operand.specs.Written.{written_of, written_list}
use Rattle.mdr_express.specs.Expressions.{arguments_of}
use Rattle.mdr_express.proofs.+expression.Given as goal

abbrev pub invariant-calls::arguments-loop-form : goal.invariant-calls::arguments-loop-form
invariant-calls::arguments-loop-form l = followed l.all (told (arguments_of l.scope l.locals (written_list (map written_of (drop l.form-index l.forms))))) ≡ told (arguments_of l.scope l.locals (written_list (map written_of l.forms)))
