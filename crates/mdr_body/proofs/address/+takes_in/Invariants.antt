use Rattle.std.proofs.Common.{◌≡◌, drop, map}
use Rattle.mdr_operand.specs.Written.{written_of, written_list}
use Rattle.mdr_body.specs.Addresses.{takes_among}
use Rattle.mdr_body.proofs.address.+takes_in.Given as goal

abbrev pub invariant-takes_among-loop-form : goal.invariant-takes_among-loop-form
invariant-takes_among-loop-form l = takes_among l.name (written_list (map written_of (drop l.form-index l.forms))) ≡ takes_among l.name (written_list (map written_of l.forms))
