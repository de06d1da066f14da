use Rattle.std.proofs.Common.{◌∙◌, ap, sym}
use Rattle.std.specs.Option.{option_map}
use Rattle.std.specs.Prelude.{not}
use Rattle.mdr_cells.specs.Names.{named}
use Rattle.mdr_extents.specs.Extent.{has_failed}
use Rattle.mdr_meaning.specs.Values.{wire_of}
use Rattle.mdr_reach.specs.Marks.{counts_at, entered, extent_of}
use Rattle.mdr_reach.proofs.FollowLaws.{extent_here, led_here, nothing_led, whole_there}
use Rattle.mdr_reach.proofs.follow.follow_pointer.Goals as goal

pub returns-in_ok-whole-in-Some-clause-whole : goal.returns-in_ok-whole-in-Some-clause-whole
returns-in_ok-whole-in-Some-clause-whole c =
    c.in_ok-whole-in-Some.ensures.whole ∙ ap (λ x. not (has_failed x)) (c.extent_in_cell-extent.ensures ∙ sym (extent_here c.args.scene.program.now c.args.scene.touched.now c.args.scene.blocks.now c.args.h c.requires.held c.args.index (wire_of c.in-Some.value) (sym c.value_at.ensures ∙ ap (option_map wire_of) c.in-Some.is)))

pub returns-in_ok-whole-in-Some-clause-marked : goal.returns-in_ok-whole-in-Some-clause-marked
returns-in_ok-whole-in-Some-clause-marked c =
    c.in_ok-whole-in-Some.ensures.marked ∙ ap (entered (counts_at c.args.scene.program.now c.args.scene.touched.now c.args.scene.blocks.now.memory) (named c.args.marked.now)) (led_here c.args.scene.program.now c.args.scene.touched.now c.args.scene.blocks.now c.args.h c.requires.held c.args.index (wire_of c.in-Some.value) (extent_of c.extent_in_cell-extent.result) (sym c.value_at.ensures ∙ ap (option_map wire_of) c.in-Some.is) c.extent_in_cell-extent.ensures)

pub returns-in-None-clause-whole : goal.returns-in-None-clause-whole
returns-in-None-clause-whole c = whole_there c.args.scene.program.now c.args.scene.touched.now c.args.scene.blocks.now.memory (record { serial = c.args.h.born.serial; index = c.args.index }) (sym c.value_at.ensures ∙ ap (option_map wire_of) c.in-None.is)

pub returns-in-None-clause-marked : goal.returns-in-None-clause-marked
returns-in-None-clause-marked c = nothing_led c.args.scene.program.now c.args.scene.touched.now c.args.scene.blocks.now.memory (record { serial = c.args.h.born.serial; index = c.args.index }) (named c.args.marked.now) (sym c.value_at.ensures ∙ ap (option_map wire_of) c.in-None.is)
