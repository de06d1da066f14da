use Rattle.std.proofs.Common.{sym, subst}
use Rattle.mdr_copy.proofs.Orders.{rise_of}
use Rattle.mdr_copy.specs.Serials.{Rise}
use Rattle.mdr_kernel_memory.proofs.blocks.in_order.Goals as goal

pub of-requires : goal.of-requires
of-requires c = subst Rise (sym c.in_ok-memory.ensures) (rise_of c.args.blocks.now.memory c.births-in_order.ensures.in_order.rises)
