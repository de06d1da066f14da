use Rattle.std.proofs.Common.{refl, ap}
use Rattle.std.proofs.Math.Path.{◌∙◌}
use Rattle.mdr_faults.specs.Faults.{extended}
use Rattle.mdr_headings.specs.Heads.{param_among, params_behind}
use Rattle.mdr_faults.proofs.Gathered.{one_behind}
use Rattle.mdr_headings.proofs.head.params.Goals as goal

pub loop-i-preserved : goal.loop-i-preserved
unfolding params_behind
loop-i-preserved c = one_behind (params_behind c.args.scope.now c.args.siblings.now) (param_among c.args.scope.now c.args.siblings.now) (λ before x rest. refl) c.args.ds.now c.loop-i.i c.index-ds-i.result c.loop-i.all _ _ c.loop-i-test.true c.index-ds-i.is (c.in_ok-all.ensures ∙ ap (extended c.loop-i.all) c.in_ok-param.ensures) c.loop-i.invariant
