use Rattle.std.proofs.Common.{◌∙◌, ap}
use Rattle.mdr_extents.specs.Extent.{up_to}
use Rattle.mdr_meaning.specs.Values.{wire_view}
use Rattle.mdr_reach.proofs.ExtentLaws.{searched_is}
use Rattle.mdr_reach.proofs.extent.searched.Goals as goal

pub returns : goal.returns
returns c =
    c.up_to.ensures ∙ ap (up_to c.args.p.index)
    (searched_is c.args.scene.program.now c.args.scene.touched.now c.args.scene.blocks.now c.args.h c.requires.held (wire_view c.args.p) c.args.start c.element_size-size.result c.first_empty-found.result c.requires.serial c.element_size-size.ensures c.first_empty-found.ensures.found)
