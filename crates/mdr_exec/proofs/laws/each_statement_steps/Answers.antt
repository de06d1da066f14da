use Rattle.mdr_exec.proofs.StepLaws.{statements_step}
use Rattle.mdr_exec.proofs.laws.each_statement_steps.Goals as goal

pub returns : goal.returns
returns g c = λ a side here l more items m n. statements_step a side here l more items m n
