use Rattle.std.proofs.Common.{◌∙◌, ap, sym, option_copied}
use Rattle.mdr_exec.specs.Behind.{is_stepless}
use Rattle.mdr_exec.specs.Places.{code_before, inner}
use Rattle.mdr_exec.proofs.BehindLaws.{stands_before}
use Rattle.mdr_exec.proofs.behind.is_behind_while.Goals as goal

pub returns-in-Some-statement_at : goal.returns-in-Some-statement_at
returns-in-Some-statement_at c = λ is.
    ap (λ cs. is_stepless (code_before cs c.args.next)) (sym (c.in-Some.ensures ∙ ap (inner c.args.path.now) c.statements_of.ensures))
    ∙ ap is_stepless (sym (stands_before c.in-Some.list.now c.args.next c.in-Some-statement_at.statement.now c.if-next-eq0.false (sym (ap option_copied c.in-Some-statement_at.is) ∙ c.statement_at.ensures)))
    ∙ sym c.is_while.ensures.stepless ∙ is
