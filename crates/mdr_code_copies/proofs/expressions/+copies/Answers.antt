use Rattle.mdr_code_copies.proofs.Choices.{choice_copied}
use Rattle.mdr_code_copies.proofs.expressions.+copies.Goals as goal

pub copied_expr-returns-in-Cond : goal.copied_expr-returns-in-Cond
copied_expr-returns-in-Cond t c =
    choice_copied c.choice.result c.args.e.now c.in-Cond.ty c.in-Cond.c c.in-Cond.a c.in-Cond.b c.get-in-Cond.result.now c.get-in-Cond-2.result.now c.get-in-Cond-3.result.now
    (c.choice.ensures c.get-in-Cond.result.now c.get-in-Cond-2.result.now c.get-in-Cond-3.result.now c.boxed_expr-c.ensures c.boxed_expr-a.ensures c.boxed_expr-b.ensures)
    c.get-in-Cond.ensures c.get-in-Cond-2.ensures c.get-in-Cond-3.ensures c.in-Cond.is
