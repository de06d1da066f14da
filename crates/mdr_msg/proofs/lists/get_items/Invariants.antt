use Rattle.std.proofs.Common.{◌≡◌, ◌-◌}
use Rattle.mdr_model.specs.Xdr.{items_at}
use Rattle.mdr_xdr.specs.Reads.{input_at}
use Rattle.mdr_msg.proofs.Loop.{with_front}
use Rattle.mdr_msg.proofs.lists.get_items.Given as goal

-- what was read before, and what is read from here on, are what is read in all
abbrev pub invariant-loop : goal.invariant-loop
invariant-loop g l =
    with_front l.items (items_at g.T.Item.reader (l.count - l.counter) (input_at l.bytes l.c.at))
    ≡ items_at g.T.Item.reader l.count (input_at l.bytes l.fn.c.at)
