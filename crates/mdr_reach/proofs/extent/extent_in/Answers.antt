use Rattle.std.proofs.Common.{◌∙◌, ap, sym}
use Rattle.mdr_core.specs.Layout.{chosen}
use Rattle.mdr_extents.specs.Extent.{annotated, none}
use Rattle.mdr_meaning.specs.Values.{wire_view}
use Rattle.mdr_reach.specs.Marks.{siblings_of}
use Rattle.mdr_reach.proofs.ExtentLaws.{views_is}
use Rattle.mdr_reach.proofs.extent.extent_in.Goals as goal

pub returns-then-is_any_touched : goal.returns-then-is_any_touched
returns-then-is_any_touched c =
    c.annotated.ensures ∙ ap (λ t. chosen t (annotated c.args.scene.program.now c.args.scene.blocks.now.memory (wire_view c.args.p) (siblings_of c.args.scene.program.now c.args.scene.blocks.now.handles c.args.siblings) c.args.ann) none)
    (sym c.if-is_any_touched.true ∙ views_is c.args.scene.program.now c.args.scene.touched.now c.args.scene.blocks.now c.args.h c.requires.held (wire_view c.args.p) c.element_size-size.result c.is_any_touched.result c.requires.serial c.element_size-size.ensures c.is_any_touched.ensures)

pub returns-else-is_any_touched : goal.returns-else-is_any_touched
returns-else-is_any_touched c =
    ap (λ t. chosen t (annotated c.args.scene.program.now c.args.scene.blocks.now.memory (wire_view c.args.p) (siblings_of c.args.scene.program.now c.args.scene.blocks.now.handles c.args.siblings) c.args.ann) none)
    (sym c.if-is_any_touched.false ∙ views_is c.args.scene.program.now c.args.scene.touched.now c.args.scene.blocks.now c.args.h c.requires.held (wire_view c.args.p) c.element_size-size.result c.is_any_touched.result c.requires.serial c.element_size-size.ensures c.is_any_touched.ensures)
