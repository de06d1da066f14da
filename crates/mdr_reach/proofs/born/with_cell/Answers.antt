use Rattle.std.proofs.Common.{sym, ◌∙◌}
use Rattle.mdr_extents.specs.Extent.{is_touched}
use Rattle.mdr_reach.proofs.BornLaws.{kept_in, kept_out}
use Rattle.mdr_reach.proofs.born.with_cell.Goals as goal

pub returns-in_ok-all : goal.returns-in_ok-all
returns-in_ok-all c = kept_in (is_touched c.args.scene.program.now c.args.scene.touched.now c.args.h.born) c.args.h.born.serial c.args.set c.in_ok-all.all c.args.index (sym c.is_touched.ensures ∙ c.if-is_touched.true) c.in_ok-all.ensures

pub returns-else-is_touched : goal.returns-else-is_touched
returns-else-is_touched c = kept_out (is_touched c.args.scene.program.now c.args.scene.touched.now c.args.h.born) c.args.h.born.serial c.args.set c.args.index (sym c.is_touched.ensures ∙ c.if-is_touched.false)
