use Rattle.std.proofs.Common.{◌≡◌, ◌++◌, drop, map, List}
use Rattle.mdr_print.specs.Marks.{Mark, spell, row}
use Rattle.mdr_print.specs.Items.{item_lines}
use Rattle.mdr_half.specs.Halves.{item_in}
use Rattle.mdr_half.proofs.halves.put_items_in.Given as goal

abbrev pub invariant-loop-item : goal.invariant-loop-item
invariant-loop-item l =
    (rest : List Mark) →
    l.out.items ++ spell (row (map item_lines (map (item_in l.half l.plan) (drop l.item-index l.items))) rest)
    ≡ l.initial.out.items ++ spell (row (map item_lines (map (item_in l.half l.plan) l.items)) rest)
