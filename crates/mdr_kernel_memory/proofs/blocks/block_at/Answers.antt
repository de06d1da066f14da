use Rattle.mdr_kernel_memory.proofs.Blockwise.{never_past}
use Rattle.mdr_kernel_memory.proofs.blocks.block_at.Goals as goal

pub unreachable-requires : goal.unreachable-requires
unreachable-requires c = never_past (λ b. b.born) c.args.blocks.now.memory c.args.place c.born_at.result c.requires c.born_at.ensures c.in-None.is
