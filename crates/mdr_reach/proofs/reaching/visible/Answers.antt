use Rattle.mdr_reach.specs.Answers.{roots_of}
use Rattle.mdr_reach.proofs.WorkLaws.{older_if}
use Rattle.mdr_reach.proofs.reaching.visible.Goals as goal

pub returns-clause-older : goal.returns-clause-older
returns-clause-older c =
    older_if c.args.program.now c.args.touched.now c.args.blocks.now.memory _ c.args.known.now (roots_of c.args.roots.now c.args.passed.now) c.births-in_order.ensures.in_order.rises c.births-in_order.ensures.in_order.below c.in_ok-answer.answer c.in_ok-answer.ensures
