use Rattle.std.proofs.Common.{◌∙◌, ap}
use Rattle.mdr_plain.specs.Storage.{number_in}
use Rattle.mdr_world.proofs.ReachLaws.{bytes_done, bytes_more}
use Rattle.mdr_world.proofs.access.bytes_in.Goals as goal

pub loop-i-preserved : goal.loop-i-preserved
loop-i-preserved c =
    rw c.in_ok-push.ensures.ok
    (bytes_more c.args.blocks.now.memory c.args.block.serial c.args.first c.args.count c.loop-i.i c.loop-i.bytes _ c.byte_in.result c.loop-i-test.true (c.byte_in.ensures ∙ ap number_in c.held_at-held.ensures) c.loop-i.invariant)

pub returns : goal.returns
returns c = bytes_done c.args.blocks.now.memory c.args.block.serial c.args.first c.args.count c.loop-i.i c.loop-i.bytes _ c.loop-i-test.false c.loop-i.invariant
