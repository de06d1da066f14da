use Rattle.std.proofs.Common.{subst}
use Rattle.mdr_reach.specs.Answers.{roots_of}
use Rattle.mdr_reach.specs.Marks.{Begins}
use Rattle.mdr_reach.proofs.WorkLaws.{root_fails}
use Rattle.mdr_reach.proofs.reaching.set_or_failing.Goals as goal

pub returns-in_ok-answer-in-Ok : goal.returns-in_ok-answer-in-Ok
returns-in_ok-answer-in-Ok c =
    let roots = roots_of c.args.roots.now c.args.passed.now in
    c.in_ok-answer-in-Ok.ensures c.args.known.now roots (subst (Begins c.args.scene c.args.known.now roots) c.in-Ok.is c.in_ok-marked.ensures)

pub returns-in-Err : goal.returns-in-Err
returns-in-Err c =
    let roots = roots_of c.args.roots.now c.args.passed.now in
    root_fails c.args.scene.program.now c.args.scene.touched.now c.args.scene.blocks.now.memory c.births-in_order.ensures.in_order.rises c.args.known.now roots c.in-Err.number
    (subst (Begins c.args.scene c.args.known.now roots) c.in-Err.is c.in_ok-marked.ensures)
