use Rattle.std.proofs.Common.{rules, of_calls}
use Rattle.std.proofs.lemmas.List.Sorted.{IsPartitionPoint-from_clause}
use Rattle.mdr_model.specs.Sets.{is_same_cell}
use Rattle.mdr_copy.proofs.CellSearches.{below, searchable}
use Rattle.mdr_copy.proofs.Searches.{parted, ends_at}
use Rattle.mdr_copy.proofs.cells.place_for.Goals as goal

pub returns-clause-place : goal.returns-clause-place
returns-clause-place c =
    let sorted = parted (below (record { serial = c.args.serial; index = c.args.index })) (is_same_cell (record { serial = c.args.serial; index = c.args.index })) _ (searchable (record { serial = c.args.serial; index = c.args.index }) _ c.requires) in
    ends_at (below (record { serial = c.args.serial; index = c.args.index })) _ _ c.partition_point.ensures.bound
    (IsPartitionPoint-from_clause (below (record { serial = c.args.serial; index = c.args.index })) _ _ c.partition_point.ensures.partitioned sorted (λ a r q k. search (rules, of_calls)))
