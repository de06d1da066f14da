use Rattle.std.proofs.lemmas.Result.{err_from_is_err_and}
use Rattle.mdr_model.specs.Xdr.{items_at}
use Rattle.mdr_xdr.specs.Reads.{input_at}
use Rattle.mdr_msg.proofs.Loop.{goes_on, ends, is_done}
use Rattle.mdr_msg.proofs.lists.get_items.Goals as goal

pub returns-in_err-item : goal.returns-in_err-item
returns-in_err-item g c =
    let p = err_from_is_err_and c.from_residual.result c.from_residual.ensures.1 in
    rw (p.1, p.2) (ends g.T.Item.reader c.in_err-item.field-0.0 c.loop.items c.args.count c.loop.counter (input_at c.args.bytes.now c.loop.c.at) (items_at g.T.Item.reader c.args.count (input_at c.args.bytes.now c.args.c.now.at)) c.loop-test.true c.in_err-item.ensures c.loop.invariant)

pub loop-preserved : goal.loop-preserved
loop-preserved g c =
    rw c.in_ok-push.ensures.ok (goes_on g.T.Item.reader c.loop.items c.args.count c.loop.counter (input_at c.args.bytes.now c.loop.c.at) c.in_ok-item.item (input_at c.args.bytes.now c.get.new.c.at) (items_at g.T.Item.reader c.args.count (input_at c.args.bytes.now c.args.c.now.at)) c.loop-test.true c.in_ok-item.ensures c.loop.invariant)

pub returns : goal.returns
returns g c = is_done g.T.Item.reader c.loop.items c.args.count c.loop.counter (input_at c.args.bytes.now c.loop.c.at) (items_at g.T.Item.reader c.args.count (input_at c.args.bytes.now c.args.c.now.at)) c.loop-test.false c.loop.invariant
