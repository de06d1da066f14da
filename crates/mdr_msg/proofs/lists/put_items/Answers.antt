use Rattle.std.proofs.Common.{sym, subst}
use Rattle.std.proofs.lemmas.List.Elements.{All-from_recursion}
use Rattle.mdr_msg.proofs.lists.put_items.Goals as goal

pub put-requires : goal.put-requires
put-requires g c = subst g.T.Item.can_be_put (sym c.item-item.is) (All-from_recursion g.T.Item.can_be_put c.args.items.now c.requires c.loop-item.item-index c.item-item.result c.loop-item-test.true)
