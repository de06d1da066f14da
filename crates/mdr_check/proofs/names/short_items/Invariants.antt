use Rattle.std.proofs.Common.{◌≡◌, drop, map}
use Rattle.mdr_faults.specs.Faults.{told}
use Rattle.mdr_headings.specs.Names.{first_of, all_fine}
use Rattle.mdr_check.specs.Names.{short_item}
use Rattle.mdr_check.proofs.names.short_items.Given as goal

abbrev pub invariant-loop-item : goal.invariant-loop-item
invariant-loop-item l = first_of l.all (told (all_fine (map short_item (drop l.item-index l.items)))) ≡ told (all_fine (map short_item l.items))
