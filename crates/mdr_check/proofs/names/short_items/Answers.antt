use Rattle.std.proofs.Common.{ap}
use Rattle.std.proofs.Math.Path.{◌∙◌}
use Rattle.mdr_headings.specs.Names.{first_of}
use Rattle.mdr_check.specs.Names.{short_item}
use Rattle.mdr_headings.proofs.Shortness.{one_verdict}
use Rattle.mdr_check.proofs.names.short_items.Goals as goal

pub loop-item-preserved : goal.loop-item-preserved
loop-item-preserved c = one_verdict short_item c.args.items.now c.loop-item.item-index c.item-item.result c.loop-item.all _ _ c.loop-item-test.true c.item-item.is (c.first_of-all.ensures ∙ ap (first_of c.loop-item.all) c.short_what.ensures) c.loop-item.invariant
