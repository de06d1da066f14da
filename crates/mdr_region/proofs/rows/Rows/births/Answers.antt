use Rattle.mdr_mem.proofs.OrderLaws.{in_order}
use Rattle.mdr_region.proofs.rows.Rows.births.Goals as goal

pub returns-clause-value : goal.returns-clause-value
returns-clause-value c = c.requires.kept.memory.counted

pub returns-clause-in_order : goal.returns-clause-in_order
returns-clause-in_order c = in_order _ _ _ _ _ c.requires.kept.memory
