use Rattle.mdr_slicer.proofs.Steps.{ok_so}
use Rattle.mdr_top.proofs.SplitLaws.{split_unwritten}
use Rattle.mdr_top.proofs.split.run_split.Goals as goal

pub returns-clause-unwritten : goal.returns-clause-unwritten
returns-clause-unwritten g c = ok_so c.split_over.result _ _ (λ due runs. split_unwritten _ _ _ _ _ _ _ _ _ _ runs) c.split_over.ensures.done
