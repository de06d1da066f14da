use Rattle.std.proofs.Common.{◌≡◌, ◌++◌, flat_map, take}
use Rattle.std.specs.List.{AllByRecursion}
use Rattle.mdr_msg.proofs.lists.put_items.Given as goal

abbrev pub invariant-loop-item : goal.invariant-loop-item
invariant-loop-item g l = record {
  written : l.out.items ≡ l.fn.out.items ++ flat_map g.T.Item.text (take l.item-index l.items);
  spelled : AllByRecursion g.T.Item.has_spelling (take l.item-index l.items);
}
