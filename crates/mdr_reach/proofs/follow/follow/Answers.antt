use Rattle.std.proofs.Common.{ℕ, ◌∙◌, ap}
use Rattle.std.specs.Prelude.{not}
use Rattle.mdr_cells.specs.Names.{cell_of, named}
use Rattle.mdr_extents.specs.Extent.{has_failed}
use Rattle.mdr_extents.specs.Reaching.{extent_at}
use Rattle.mdr_reach.specs.Marks.{counts_at, entered, led}
use Rattle.mdr_reach.proofs.BlockLaws.{held_none, held_some, serial_some}
use Rattle.mdr_reach.proofs.EnterLaws.{not_born}
use Rattle.mdr_reach.proofs.FollowLaws.{nothing_led, whole_there}
use Rattle.mdr_reach.proofs.follow.follow.Goals as goal

pub follow_in-requires-clause-held : goal.follow_in-requires-clause-held
follow_in-requires-clause-held c = held_some c.args.scene.program.now c.args.scene.touched.now c.args.scene.blocks.now c.args.name.serial c.args.block c.in-Some.h c.in-Some.is c.requires.held

pub returns-in_ok-whole-in-Some-clause-whole : goal.returns-in_ok-whole-in-Some-clause-whole
returns-in_ok-whole-in-Some-clause-whole c =
    c.in_ok-whole-in-Some.ensures.whole
    ∙ ap (λ (n : ℕ). not (has_failed (extent_at c.args.scene.program.now c.args.scene.touched.now c.args.scene.blocks.now.memory (record { serial = n; index = c.args.name.index })))) (serial_some c.args.scene.program.now c.args.scene.touched.now c.args.scene.blocks.now c.args.name.serial c.args.block c.in-Some.h c.in-Some.is c.requires.serial)

pub returns-in_ok-whole-in-Some-clause-marked : goal.returns-in_ok-whole-in-Some-clause-marked
returns-in_ok-whole-in-Some-clause-marked c =
    c.in_ok-whole-in-Some.ensures.marked
    ∙ ap (λ (n : ℕ). entered (counts_at c.args.scene.program.now c.args.scene.touched.now c.args.scene.blocks.now.memory) (named c.args.marked.now) (led c.args.scene.program.now c.args.scene.touched.now c.args.scene.blocks.now.memory (record { serial = n; index = c.args.name.index }))) (serial_some c.args.scene.program.now c.args.scene.touched.now c.args.scene.blocks.now c.args.name.serial c.args.block c.in-Some.h c.in-Some.is c.requires.serial)

pub returns-in-None-clause-whole : goal.returns-in-None-clause-whole
returns-in-None-clause-whole c = whole_there c.args.scene.program.now c.args.scene.touched.now c.args.scene.blocks.now.memory (cell_of c.args.name) (not_born c.args.scene.blocks.now.memory c.args.name.serial c.args.name.index (held_none c.args.scene.program.now c.args.scene.touched.now c.args.scene.blocks.now c.args.name.serial c.args.block c.in-None.is c.requires.held))

pub returns-in-None-clause-marked : goal.returns-in-None-clause-marked
returns-in-None-clause-marked c = nothing_led c.args.scene.program.now c.args.scene.touched.now c.args.scene.blocks.now.memory (cell_of c.args.name) (named c.args.marked.now) (not_born c.args.scene.blocks.now.memory c.args.name.serial c.args.name.index (held_none c.args.scene.program.now c.args.scene.touched.now c.args.scene.blocks.now c.args.name.serial c.args.block c.in-None.is c.requires.held))
