use Rattle.std.proofs.Common.{sym, ◌∙◌}
use Rattle.mdr_extents.specs.Extent.{is_touched}
use Rattle.mdr_reach.proofs.ExtentLaws.{any_first, any_found, any_more, any_over}
use Rattle.mdr_reach.proofs.extent.is_any_touched.Goals as goal

pub loop-i-init : goal.loop-i-init
loop-i-init c = any_first (is_touched c.args.scene.program.now c.args.scene.touched.now c.args.h.born) c.args.h.born.serial c.args.first c.args.size

pub loop-i-preserved : goal.loop-i-preserved
loop-i-preserved c = any_more (is_touched c.args.scene.program.now c.args.scene.touched.now c.args.h.born) c.args.h.born.serial c.args.first c.loop-i.i c.args.size _ c.loop-i-test.true (sym c.is_touched.ensures ∙ c.if-is_touched.false) c.loop-i.invariant

pub returns-then-is_touched : goal.returns-then-is_touched
returns-then-is_touched c = any_found (is_touched c.args.scene.program.now c.args.scene.touched.now c.args.h.born) c.args.h.born.serial c.args.first c.loop-i.i c.args.size _ c.loop-i-test.true (sym c.is_touched.ensures ∙ c.if-is_touched.true) c.loop-i.invariant

pub returns : goal.returns
returns c = any_over (is_touched c.args.scene.program.now c.args.scene.touched.now c.args.h.born) c.args.h.born.serial c.args.first c.loop-i.i c.args.size _ c.loop-i-test.false c.loop-i.invariant
