use Rattle.std.proofs.Common.{Some, ◌∙◌, ap}
use Rattle.mdr_core.specs.declared.code.Step.TheVariants as step
use Rattle.mdr_core.specs.Code.{Codes}
use Rattle.mdr_core.specs.Folds.{codes_of}
use Rattle.mdr_core.proofs.Coded.{code_is, if_is, while_is}
use Rattle.mdr_exec.proofs.turning.by_test.Goals as goal

pub returns-in_ok-done-in-While-clause-done : goal.returns-in_ok-done-in-While-clause-done
returns-in_ok-done-in-While-clause-done g c = λ done side known.
    c.in_ok-done-in-While.ensures.done done side c.args.statement.now.number Codes.End (codes_of c.in-While.field-1) known
    (c.requires.stands ∙ ap Some (code_is c.args.statement.now (step.While c.in-While.test c.in-While.field-1) c.in-While.is ∙ while_is c.args.statement.now.number c.in-While.test c.in-While.field-1))

pub returns-in_ok-done-in-If-clause-done : goal.returns-in_ok-done-in-If-clause-done
returns-in_ok-done-in-If-clause-done g c = λ done side known.
    c.in_ok-done-in-If.ensures.done done side c.args.statement.now.number (codes_of c.in-If.field-1) (codes_of c.in-If.field-2) known
    (c.requires.stands ∙ ap Some (code_is c.args.statement.now (step.If c.in-If.test c.in-If.field-1 c.in-If.field-2) c.in-If.is ∙ if_is c.args.statement.now.number c.in-If.test c.in-If.field-1 c.in-If.field-2))
