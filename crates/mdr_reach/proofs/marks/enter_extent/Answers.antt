use Rattle.std.proofs.Common.{◌∙◌, ap, sym}
use Rattle.mdr_cells.specs.Names.{named}
use Rattle.mdr_extents.specs.Extent.{cells_in}
use Rattle.mdr_meaning.specs.Values.{wire_of}
use Rattle.mdr_reach.specs.Marks.{counts_at, entered, extent_of}
use Rattle.mdr_reach.proofs.FollowLaws.{failed_enters}
use Rattle.mdr_reach.proofs.marks.enter_extent.Goals as goal

pub returns-in-Fails-clause-marked : goal.returns-in-Fails-clause-marked
returns-in-Fails-clause-marked c =
    failed_enters c.args.scene.program.now c.args.scene.touched.now c.args.scene.blocks.now.memory (counts_at c.args.scene.program.now c.args.scene.touched.now c.args.scene.blocks.now.memory) (named c.args.marked.now) (wire_of c.args.value)
    ∙ ap (λ e. entered (counts_at c.args.scene.program.now c.args.scene.touched.now c.args.scene.blocks.now.memory) (named c.args.marked.now) (cells_in c.args.scene.program.now c.args.scene.touched.now c.args.scene.blocks.now.memory (wire_of c.args.value) (extent_of e))) (sym c.in-Fails.is)
