use Rattle.std.proofs.Common.{◌∙◌, rules}
use Rattle.std.specs.Int.{w128}
use Rattle.std.proofs.lemmas.Int.{to_z-of_z}
use Rattle.mdr_exec.proofs.IntegerLaws.{may_stand}
use Rattle.mdr_exec.proofs.integer.computed.Goals as goal

pub bin-requires-clause-right : goal.bin-requires-clause-right
bin-requires-clause-right c = may_stand c.args.op c.args.kind _ _ (to_z-of_z w128 c.right_operand.result (search rules) ∙ c.right_operand.ensures)
