use Rattle.std.proofs.Common.{◌∙◌, ap, arith}
use Rattle.mdr_reach.specs.Keys.{is_set}
use Rattle.mdr_reach.proofs.KeyLaws.{filled}
use Rattle.mdr_reach.proofs.keys.reach.Goals as goal

pub returns-clause-same : goal.returns-clause-same
returns-clause-same c n = ap (λ xs. is_set xs n) c.in_ok-resize.ensures.items ∙ filled c.args.flags.now.items _ _ n (omega (arith, c.args.flags.now.ok.0))
