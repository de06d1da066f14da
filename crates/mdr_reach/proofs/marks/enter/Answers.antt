use Rattle.std.proofs.Common.{sym, ◌∙◌}
use Rattle.mdr_cells.specs.Names.{named}
use Rattle.mdr_reach.specs.Marks.{counts_at}
use Rattle.mdr_reach.proofs.EnterLaws.{joins, joins_not}
use Rattle.mdr_reach.proofs.marks.enter.Goals as goal

pub returns-in_ok-mark : goal.returns-in_ok-mark
returns-in_ok-mark c =
    joins (counts_at c.args.scene.program.now c.args.scene.touched.now c.args.scene.blocks.now.memory) (named c.args.marked.now) (named c.mark.new.self) (record { serial = c.args.h.born.serial; index = c.args.index })
    (sym c.counts.ensures ∙ c.if-counts.true) c.in_ok-mark.ensures

pub returns-else-counts : goal.returns-else-counts
returns-else-counts c =
    joins_not (counts_at c.args.scene.program.now c.args.scene.touched.now c.args.scene.blocks.now.memory) (named c.args.marked.now) (record { serial = c.args.h.born.serial; index = c.args.index })
    (sym c.counts.ensures ∙ c.if-counts.false)
