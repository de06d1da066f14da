use Rattle.std.proofs.Common.{◌≡◌, drop, map}
use Rattle.mdr_operand.specs.Written.{written_of, written_list}
use Rattle.mdr_body.specs.Uses.{use_among}
use Rattle.mdr_body.proofs.uses.+use_in.Given as goal

abbrev pub invariant-use_among-loop-form : goal.invariant-use_among-loop-form
invariant-use_among-loop-form l = use_among l.name (written_list (map written_of (drop l.form-index l.forms))) ≡ use_among l.name (written_list (map written_of l.forms))
