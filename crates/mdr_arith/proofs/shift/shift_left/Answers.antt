use Rattle.std.proofs.Common.{◌∙◌}
use Rattle.mdr_arith.proofs.Shifts.{shifted-is}
use Rattle.mdr_arith.proofs.shift.shift_left.Goals as goal

pub returns : goal.returns
returns c = c.fit.ensures ∙ shifted-is c.args.kind c.args.a c.args.count c.requires c.ranges.count c.if-not-takes.ensures c.if-a-lt0.false
