use Rattle.std.proofs.Common.{arith}
use Rattle.mdr_mem.proofs.RowLaws.{blocks-length}
use Rattle.mdr_mem.proofs.rows.Rows.live.Goals as goal

pub returns : goal.returns
returns c = omega (arith, c.len.ensures, blocks-length c.args.self.now.live.items c.args.self.now.held.slots c.args.self.now.live.items)
