use Rattle.mdr_mem.proofs.HandleLaws.{current-twice}
use Rattle.mdr_region.proofs.rows.Rows.load.Goals as goal

pub returns-clause-alive : goal.returns-clause-alive
returns-clause-alive c = rw c.current.ensures (current-twice c.args.self.now.live.items c.held_in.result)
