use Rattle.std.proofs.Common.{◌∙◌, ap}
use Rattle.mdr_core.specs.declared.undefined.Undefined.TheVariants.{Overflow}
use Rattle.mdr_core.specs.Operators.{fitted_or, fitted}
use Rattle.mdr_arith.proofs.Sizes.{in_range-word}
use Rattle.mdr_arith.proofs.Words.{difference-fits, difference-is}
use Rattle.mdr_arith.proofs.sum.subtract.Goals as goal

pub overflow_sub-a : goal.overflow_sub-a
overflow_sub-a c = difference-fits c.args.a c.args.b (in_range-word c.args.kind c.args.a c.requires.left) (in_range-word c.args.kind c.args.b c.requires.right)

pub returns : goal.returns
unfolding fitted
returns c = c.fit.ensures ∙ ap (fitted_or Overflow c.args.kind) (difference-is c.args.a c.args.b (in_range-word c.args.kind c.args.a c.requires.left) (in_range-word c.args.kind c.args.b c.requires.right))
