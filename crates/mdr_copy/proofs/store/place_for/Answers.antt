use Rattle.std.proofs.Common.{rules}
use Rattle.std.proofs.lemmas.List.Sorted.{IsPartitionPoint-from_clause}
use Rattle.mdr_copy.specs.InPlaces.{is_below}
use Rattle.mdr_copy.specs.Serials.{is_block}
use Rattle.mdr_copy.proofs.Places.{searchable}
use Rattle.mdr_copy.proofs.Searches.{parted, ends_at}
use Rattle.mdr_copy.proofs.store.place_for.Goals as goal

pub returns-clause-place : goal.returns-clause-place
returns-clause-place c =
    let sorted = parted (is_below c.args.serial) (is_block c.args.serial) _ (searchable c.args.serial _ c.requires) in
    ends_at (is_below c.args.serial) _ _ c.partition_point.ensures.bound (IsPartitionPoint-from_clause (is_below c.args.serial) _ _ c.partition_point.ensures.partitioned sorted (λ a r q k. search rules))
