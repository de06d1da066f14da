use Rattle.mdr_watch.proofs.Calls.{live_if}
use Rattle.mdr_watch.proofs.upcall.first_set.Goals as goal

pub returns-clause-live : goal.returns-clause-live
returns-clause-live c =
    live_if c.args.upcall.watch.program.now _ c.blocks-memory.result.now.memory _ _ c.in_ok-taken.taken c.args.world.now.world (record { rises = c.births-in_order.ensures.rises; below = c.births-in_order.ensures.below })
    c.blocks-memory.ensures.memory c.in_ok-taken.ensures.exact
