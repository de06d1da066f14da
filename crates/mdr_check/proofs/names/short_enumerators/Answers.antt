use Rattle.std.proofs.Common.{ap}
use Rattle.std.proofs.Math.Path.{◌∙◌}
use Rattle.mdr_headings.specs.Names.{first_of}
use Rattle.mdr_check.specs.Names.{short_enumerator}
use Rattle.mdr_headings.proofs.Shortness.{one_verdict}
use Rattle.mdr_check.proofs.names.short_enumerators.Goals as goal

pub loop-e-preserved : goal.loop-e-preserved
loop-e-preserved c = one_verdict short_enumerator c.args.es.now c.loop-e.e-index c.e-item.result c.loop-e.all _ _ c.loop-e-test.true c.e-item.is (c.first_of-all.ensures ∙ ap (first_of c.loop-e.all) c.short_name.ensures) c.loop-e.invariant
