use Rattle.std.proofs.Common.{refl, ap, drop, ◌+◌}
use Rattle.std.proofs.Math.Path.{◌∙◌}
use Rattle.mdr_faults.specs.Faults.{extended}
use Rattle.mdr_check.specs.Uses.{defined_rule, defined_functions}
use Rattle.mdr_faults.proofs.Gathered.{one_more}
use Rattle.mdr_check.proofs.uses.defined_functions.Goals as goal

pub loop-f-preserved : goal.loop-f-preserved
unfolding defined_functions
loop-f-preserved g c = one_more (defined_functions (g.B.Bodies.used c.args.bodies.now) c.args.items.now) (defined_rule (g.B.Bodies.used c.args.bodies.now) c.args.items.now c.f-item.result) (defined_functions (g.B.Bodies.used c.args.bodies.now) c.args.items.now (drop (c.loop-f.f-index + 1) c.args.fs.now)) c.args.fs.now c.loop-f.f-index c.f-item.result c.loop-f.all _ _ c.loop-f-test.true c.f-item.is refl (c.in_ok-all.ensures ∙ ap (extended c.loop-f.all) c.defined_rule.ensures) c.loop-f.invariant
