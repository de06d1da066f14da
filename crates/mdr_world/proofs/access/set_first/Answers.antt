use Rattle.mdr_world.proofs.FirstLaws.{stored-first}
use Rattle.mdr_world.proofs.access.set_first.Goals as goal

pub returns-in-Some-clause-made : goal.returns-in-Some-clause-made
returns-in-Some-clause-made c = λ is v f.
    stored-first c.args.blocks.now c.in-Some.block c.args.serial c.births-in_order.ensures.in_order c.in-Some.ensures.alive c.in-Some.ensures.serial c.args.integer c.put_first.new.blocks c.put_first.ensures v f
