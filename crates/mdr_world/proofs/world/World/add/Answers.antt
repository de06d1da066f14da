use Rattle.std.proofs.Common.{◌∙◌, ap, map}
use Rattle.mdr_meaning.specs.Values.{wire_of}
use Rattle.mdr_world.proofs.RunLaws.{added}
use Rattle.mdr_world.proofs.world.World.add.Goals as goal

pub returns-clause-born : goal.returns-clause-born
returns-clause-born c =
    added _ c.args.self.now c.self.view_is c.args.kind c.args.shape c.in_ok-shape.shape c.as_slice.result.now c.in_ok-block.block c.self.inside.storage.blocks.handles _ _
    c.in_ok-shape.ensures.ty c.in_ok-shape.ensures.count (ap (map wire_of) c.as_slice.ensures ∙ c.in_ok-first.ensures) c.in_ok-block.ensures.serial c.in_ok-block.ensures.memory c.in_ok-block.ensures.lives
