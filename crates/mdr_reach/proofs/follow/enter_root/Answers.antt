use Rattle.std.proofs.Common.{◌∙◌, ap}
use Rattle.std.specs.Prelude.{not}
use Rattle.mdr_cells.specs.Names.{named}
use Rattle.mdr_extents.specs.Extent.{cells_in, has_failed}
use Rattle.mdr_meaning.specs.Values.{wire_of}
use Rattle.mdr_reach.specs.Answers.{root_of}
use Rattle.mdr_reach.specs.Marks.{counts_at, entered, extent_of}
use Rattle.mdr_reach.proofs.FollowLaws.{root_is}
use Rattle.mdr_reach.proofs.follow.enter_root.Goals as goal

pub returns-clause-whole : goal.returns-clause-whole
returns-clause-whole c =
    c.in_ok-whole.ensures.whole ∙ ap (λ x. not (has_failed x)) (root_is c.args.scene.program.now c.args.scene.touched.now c.args.scene.blocks.now.memory c.args.passed.now (root_of c.args.root) (extent_of c.value_extent-extent.result) c.value_extent-extent.ensures)

pub returns-clause-marked : goal.returns-clause-marked
returns-clause-marked c =
    c.in_ok-whole.ensures.marked ∙ ap (λ x. entered (counts_at c.args.scene.program.now c.args.scene.touched.now c.args.scene.blocks.now.memory) (named c.args.marked.now) (cells_in c.args.scene.program.now c.args.scene.touched.now c.args.scene.blocks.now.memory (wire_of c.args.root.value) x))
    (root_is c.args.scene.program.now c.args.scene.touched.now c.args.scene.blocks.now.memory c.args.passed.now (root_of c.args.root) (extent_of c.value_extent-extent.result) c.value_extent-extent.ensures)
