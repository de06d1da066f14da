use Rattle.std.proofs.Common.{◌∙◌, arith}
use Rattle.mdr_arith.proofs.Quotients.{quotient-fits, divided}
use Rattle.mdr_arith.proofs.Sizes.{in_range-word}
use Rattle.mdr_arith.proofs.division.divide.Goals as goal

pub nonzero_div-a : goal.nonzero_div-a
nonzero_div-a c =
    let h = c.if-b-eq0.false in
    (omega arith, quotient-fits c.args.a c.args.b (in_range-word c.args.kind c.args.a c.requires.left) (in_range-word c.args.kind c.args.b c.requires.right))

pub returns : goal.returns
returns c = c.fit.ensures ∙ divided c.args.kind c.args.a c.args.b (in_range-word c.args.kind c.args.a c.requires.left) (in_range-word c.args.kind c.args.b c.requires.right) c.if-b-eq0.false
