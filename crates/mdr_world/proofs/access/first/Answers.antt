use Rattle.std.proofs.lemmas.Option.{IfSome_then}
use Rattle.mdr_world.proofs.FirstLaws.{loaded-first}
use Rattle.mdr_world.proofs.access.first.Goals as goal

pub returns-in-Some : goal.returns-in-Some
returns-in-Some c =
    IfSome_then c.first_in.result c.first_in.ensures
    (λ n e. loaded-first c.args.blocks.now c.in-Some.block c.args.serial c.births-in_order.ensures.in_order c.in-Some.ensures.alive c.in-Some.ensures.serial n e)
