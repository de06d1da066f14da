use Rattle.std.proofs.Common.{◌∙◌, sym}
use Rattle.mdr_arith.proofs.Conversions.{conv-whole}
use Rattle.mdr_arith.proofs.conversion.conv.Goals as goal

pub returns-then-contains : goal.returns-then-contains
returns-then-contains c = conv-whole c.args.kind c.args.number c.ranges.number (sym c.contains.ensures ∙ c.if-contains.true)
