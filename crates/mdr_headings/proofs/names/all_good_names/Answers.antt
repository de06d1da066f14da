use Rattle.std.proofs.Common.{ap}
use Rattle.std.proofs.Math.Path.{◌∙◌}
use Rattle.mdr_headings.specs.Names.{first_of, good_names}
use Rattle.mdr_headings.proofs.Shortness.{one_verdict}
use Rattle.mdr_headings.proofs.names.all_good_names.Goals as goal

pub loop-d-preserved : goal.loop-d-preserved
loop-d-preserved c = one_verdict good_names c.args.ds.now c.loop-d.d-index c.d-item.result c.loop-d.all _ _ c.loop-d-test.true c.d-item.is (c.first_of-all.ensures ∙ ap (first_of c.loop-d.all) c.good_names.ensures) c.loop-d.invariant
