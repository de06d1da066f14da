use Rattle.std.proofs.Common.{◌≡◌, None, subst}
use Rattle.std.specs.Prelude.{MatchOption}
use Rattle.mdr_cells.specs.Names.{named}
use Rattle.mdr_model.specs.Memory.{born_at}
use Rattle.mdr_reach.specs.Marks.{IsHeld}
use Rattle.mdr_reach.proofs.FollowLaws.{dead_enters}
use Rattle.mdr_reach.proofs.marks.enter_from.Goals as goal

pub returns-in-None : goal.returns-in-None
returns-in-None c =
    let none : born_at c.args.scene.blocks.now.memory c.args.block.serial ≡ None = subst (λ o. MatchOption o (born_at c.args.scene.blocks.now.memory c.args.block.serial ≡ None) (λ h. IsHeld c.args.scene.program.now c.args.scene.touched.now c.args.scene.blocks.now h)) c.in-None.is c.block_of.ensures.held in
    dead_enters c.args.scene.program.now c.args.scene.touched.now c.args.scene.blocks.now.memory (named c.args.marked.now) c.args.block.serial c.args.first c.args.count none
