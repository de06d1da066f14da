use Rattle.std.proofs.Common.{◌∙◌, rules}
use Rattle.std.specs.Int.{w128}
use Rattle.std.proofs.lemmas.Int.{to_z-of_z}
use Rattle.mdr_arith.proofs.Bitwise.{flip-is}
use Rattle.mdr_arith.proofs.bits.flip.Goals as goal

pub returns : goal.returns
returns c = to_z-of_z w128 c.conv.result (search rules) ∙ c.conv.ensures ∙ flip-is c.args.kind c.args.a c.ranges.a
