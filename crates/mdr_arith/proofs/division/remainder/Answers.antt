use Rattle.mdr_arith.proofs.Quotients.{quotient-fits, divisor-fits, remaining}
use Rattle.mdr_arith.proofs.Sizes.{in_range-word}
use Rattle.mdr_arith.proofs.division.remainder.Goals as goal

pub nonzero_rem-result : goal.nonzero_rem-result
nonzero_rem-result c =
    let p = in_range-word c.args.kind c.args.a c.requires.left in
    let q = in_range-word c.args.kind c.args.b c.requires.right in
    (divisor-fits c.args.kind c.args.a c.args.b c.in_ok-divide.field-0 p q c.in_ok-divide.ensures, quotient-fits c.args.a c.args.b p q)

pub returns : goal.returns
returns c = remaining c.args.kind c.args.a c.args.b c.in_ok-divide.field-0 c.requires.left c.requires.right c.in_ok-divide.ensures
