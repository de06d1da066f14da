use Rattle.std.proofs.Common.{ap, map}
use Rattle.std.specs.Prelude.{option_copied, option_map}
use Rattle.mdr_mem.specs.Contents.{wire_in}
use Rattle.mdr_kernel_memory.proofs.Blockwise.{never_past}
use Rattle.mdr_kernel_memory.proofs.blocks.cells_at.Goals as goal

pub unreachable-requires : goal.unreachable-requires
unreachable-requires c =
    never_past (λ b. b.cells) c.args.blocks.now.memory c.args.place _ c.requires c.cells_at.ensures (ap (λ o. option_map (map (wire_in c.args.blocks.now.handles)) (option_copied o)) c.in-None.is)
