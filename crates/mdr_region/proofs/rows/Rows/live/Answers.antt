use Rattle.std.proofs.Common.{arith}
use Rattle.mdr_mem.proofs.RowLaws.{blocks-length}
use Rattle.mdr_region.specs.Slots.{held_slots}
use Rattle.mdr_region.proofs.rows.Rows.live.Goals as goal

pub returns : goal.returns
returns c =
    let s = c.args.self.now in
    omega (arith, c.len.ensures, blocks-length s.live.items (held_slots s.pool.values.items s.rows.slots) s.live.items)
