use Rattle.std.proofs.Common.{◌∙◌}
use Rattle.mdr_cells.specs.Names.{cell_of}
use Rattle.mdr_reach.specs.Marks.{graph_in}
use Rattle.mdr_reach.proofs.WorkLaws.{fails_of, least_kept, not_false, not_true}
use Rattle.mdr_reach.proofs.least.follow_on.Goals as goal

pub returns-then-whole-clause-least : goal.returns-then-whole-clause-least
returns-then-whole-clause-least c cs had =
    least_kept (graph_in c.args.scene) cs c.args.failing (cell_of c.args.name) had
    (fails_of c.args.scene.program.now c.args.scene.touched.now c.args.scene.blocks.now.memory (cell_of c.args.name) ∙ not_true c.in_ok-whole.whole _ c.in_ok-whole.ensures.whole c.if-whole.true)

pub returns-else-whole-clause-least : goal.returns-else-whole-clause-least
returns-else-whole-clause-least c cs had =
    c.with_failing.ensures (graph_in c.args.scene) cs had
    (fails_of c.args.scene.program.now c.args.scene.touched.now c.args.scene.blocks.now.memory (cell_of c.args.name) ∙ not_false c.in_ok-whole.whole _ c.in_ok-whole.ensures.whole c.if-whole.false)
