use Rattle.mdr_kernel_memory.proofs.Blockwise.{blocks_next}
use Rattle.mdr_kernel_memory.proofs.blocks.all_blocks.Goals as goal

pub loop-place-preserved : goal.loop-place-preserved
loop-place-preserved c =
    blocks_next c.args.blocks.now.memory c.loop-place.place c.in_ok-block_at.field-0 c.loop-place.memory.items c.push.new.self.items c.in_ok-block_at.ensures c.in_ok-push.ensures.items c.loop-place.invariant
