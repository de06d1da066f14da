use Rattle.std.proofs.Common.{◌∙◌, ap}
use Rattle.mdr_core.specs.declared.undefined.Undefined.TheVariants.{Overflow}
use Rattle.mdr_core.specs.Operators.{fitted_or, fitted, negated}
use Rattle.mdr_arith.proofs.Sizes.{in_range-word}
use Rattle.mdr_arith.proofs.Words.{negation-fits, negation-is}
use Rattle.mdr_arith.proofs.sum.neg.Goals as goal

pub overflow_sub-a : goal.overflow_sub-a
overflow_sub-a c = negation-fits c.args.a (in_range-word c.args.kind c.args.a c.requires)

pub returns : goal.returns
unfolding negated fitted
returns c = c.fit.ensures ∙ ap (fitted_or Overflow c.args.kind) (negation-is c.args.a (in_range-word c.args.kind c.args.a c.requires))
