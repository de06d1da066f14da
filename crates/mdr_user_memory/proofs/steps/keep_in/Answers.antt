use Rattle.std.proofs.Common.{ap}
use Rattle.mdr_user_memory.specs.Spots.{cell_in}
use Rattle.mdr_user_memory.proofs.StepLaws.{keep_linked, keep_moves}
use Rattle.mdr_user_memory.proofs.TwinLaws.{pair_alive}
use Rattle.mdr_mem.specs.Contents.{Contents}
use Rattle.mdr_user_memory.proofs.steps.keep_in.Goals as goal

pub put-requires : goal.put-requires
put-requires c = pair_alive c.args.spot.serial c.args.block c.requires.linked c.requires.pair

pub returns-clause-linked : goal.returns-clause-linked
returns-clause-linked c =
    keep_linked (cell_in c.args.spot) c.args.block c.args.value _ _ _ _ c.addressed-placed.ensures c.put.ensures.stored c.births-in_order.ensures.in_order c.requires.pair c.requires.linked

pub returns-clause-moves : goal.returns-clause-moves
returns-clause-moves c =
    keep_moves (cell_in c.args.spot) c.args.block c.args.value _ _ _ _ c.addressed-placed.ensures c.put.ensures.stored c.births-in_order.ensures.in_order c.requires.pair

pub returns-clause-lives : goal.returns-clause-lives
returns-clause-lives c = ap (λ (r : Contents). r.lives) c.put.ensures.stored
