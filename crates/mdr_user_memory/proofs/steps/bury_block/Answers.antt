use Rattle.std.proofs.Common.{ap}
use Rattle.mdr_user_memory.proofs.StepLaws.{bury_linked, bury_moves}
use Rattle.mdr_user_memory.proofs.TwinLaws.{pair_alive}
use Rattle.mdr_mem.specs.Contents.{Contents}
use Rattle.mdr_user_memory.proofs.LivedLaws.{lives_died}
use Rattle.mdr_user_memory.proofs.steps.bury_block.Goals as goal

pub kill-requires : goal.kill-requires
kill-requires c = record { alive = pair_alive c.args.serial c.args.block c.requires.linked c.requires.pair }

pub returns-clause-linked : goal.returns-clause-linked
returns-clause-linked c = bury_linked c.args.serial c.args.block _ _ _ _ c.kill.ensures.dead c.drop_pair.ensures.pairs c.births-in_order.ensures.in_order c.requires.pair c.requires.linked

pub returns-clause-moves : goal.returns-clause-moves
returns-clause-moves c = bury_moves c.args.serial c.args.block _ _ _ _ c.kill.ensures.dead c.drop_pair.ensures.pairs c.births-in_order.ensures.in_order c.requires.pair

pub returns-clause-lived : goal.returns-clause-lived
returns-clause-lived c = lives_died c.args.serial c.args.block _ _ _ _ (ap (λ (r : Contents). r.lives) c.kill.ensures.dead) c.drop_pair.ensures.pairs c.requires.pair
