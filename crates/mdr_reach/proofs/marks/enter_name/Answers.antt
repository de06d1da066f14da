use Rattle.std.proofs.Common.{ℕ, ◌∙◌, ap}
use Rattle.mdr_cells.specs.Names.{cell_of, named}
use Rattle.mdr_reach.specs.Marks.{counts_at, with_cell}
use Rattle.mdr_reach.proofs.BlockLaws.{held_none, held_some, serial_some}
use Rattle.mdr_reach.proofs.FollowLaws.{dead_joins}
use Rattle.mdr_reach.proofs.marks.enter_name.Goals as goal

pub enter-requires : goal.enter-requires
enter-requires c = held_some c.args.scene.program.now c.args.scene.touched.now c.args.scene.blocks.now c.args.name.serial c.args.block c.in-Some.h c.in-Some.is c.requires.held

pub returns-in_ok-enter-in-Some : goal.returns-in_ok-enter-in-Some
returns-in_ok-enter-in-Some c =
    c.in_ok-enter-in-Some.ensures
    ∙ ap (λ (n : ℕ). with_cell (counts_at c.args.scene.program.now c.args.scene.touched.now c.args.scene.blocks.now.memory) (named c.args.marked.now) (record { serial = n; index = c.args.name.index })) (serial_some c.args.scene.program.now c.args.scene.touched.now c.args.scene.blocks.now c.args.name.serial c.args.block c.in-Some.h c.in-Some.is c.requires.serial)

pub returns-in-None : goal.returns-in-None
returns-in-None c = dead_joins c.args.scene.program.now c.args.scene.touched.now c.args.scene.blocks.now.memory (named c.args.marked.now) (cell_of c.args.name) (held_none c.args.scene.program.now c.args.scene.touched.now c.args.scene.blocks.now c.args.name.serial c.args.block c.in-None.is c.requires.held)
