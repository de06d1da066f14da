use Rattle.std.proofs.lemmas.List.Filters.{dedup_is}
use Rattle.mdr_cells.proofs.SetLaws.{sorted_rises, sorted_same}
use Rattle.mdr_cells.proofs.set.in_order.Goals as goal

pub returns-clause-rises : goal.returns-clause-rises
returns-clause-rises c = sorted_rises _ _ c.sort_unstable.ensures.sorted (dedup_is _ _ _ c.dedup.ensures.filtered)

pub returns-clause-same : goal.returns-clause-same
returns-clause-same c = sorted_same _ _ _ c.sort_unstable.ensures.permutation (dedup_is _ _ _ c.dedup.ensures.filtered)
