use Rattle.std.proofs.Common.{Some, ◌∙◌, ap, sym}
use Rattle.mdr_meaning.specs.Values.{wire_of}
use Rattle.mdr_reach.specs.Marks.{extent_of}
use Rattle.mdr_reach.proofs.FollowLaws.{field_extent, lone_extent, no_extent}
use Rattle.mdr_reach.proofs.follow.extent_around.Goals as goal

pub returns-in-Some-Field : goal.returns-in-Some-Field
returns-in-Some-Field c =
    field_extent c.args.scene.program.now c.args.scene.touched.now c.args.scene.blocks.now c.args.h c.requires.held c.args.index c.start.result c.in-Some-Field.s c.in-Some-Field.f c.in-Some-Field.field-0-2 c.field_ann-ann.result (wire_of c.args.value) (extent_of c.value_extent.result)
    c.start.ensures c.field_ann-ann.ensures (ap (λ x. Some x) (sym c.in-Some-Field.field-0-is) ∙ (sym c.in-Some-Field.is ∙ c.around.ensures)) c.value_extent.ensures

pub returns-in-Some-Nothing : goal.returns-in-Some-Nothing
returns-in-Some-Nothing c =
    lone_extent c.args.scene.program.now c.args.scene.touched.now c.args.h.born c.args.index c.args.scene.blocks.now c.global_ann-ann.result (wire_of c.args.value) (extent_of c.value_extent-in-Some-Nothing.result)
    c.global_ann-ann.ensures (ap (λ x. Some x) (sym c.in-Some-Nothing.field-0-is) ∙ (sym c.in-Some-Nothing.is ∙ c.around.ensures)) c.value_extent-in-Some-Nothing.ensures

pub returns-in-None : goal.returns-in-None
returns-in-None c = no_extent c.args.scene.program.now c.args.scene.touched.now c.args.h.born c.args.index c.args.scene.blocks.now (wire_of c.args.value) (sym c.in-None.is ∙ c.around.ensures)
