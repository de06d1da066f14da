use Rattle.std.proofs.Common.{◌∙◌, rules}
use Rattle.std.specs.Int.{w128}
use Rattle.std.proofs.lemmas.Int.{to_z-of_z}
use Rattle.mdr_arith.proofs.Bitwise.{bit_or-is}
use Rattle.mdr_arith.proofs.bits.bit_or.Goals as goal

pub returns : goal.returns
returns c =
    to_z-of_z w128 c.number.result (search rules)
    ∙ c.number.ensures
    ∙ bit_or-is c.args.kind c.args.a c.args.b c.bits.result c.bits-2.result (record { fits = c.ranges.a; is = c.bits.ensures }) (record { fits = c.ranges.b; is = c.bits-2.ensures })
