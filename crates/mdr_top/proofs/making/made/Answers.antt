use Rattle.mdr_slicer.proofs.Steps.{ok_so}
use Rattle.mdr_top.proofs.MadeLaws.{made_reads, made_unwritten}
use Rattle.mdr_top.proofs.making.made.Goals as goal

pub returns-clause-read : goal.returns-clause-read
returns-clause-read g c = ok_so c.generated.result _ _ (λ due d. made_reads _ _ _ _ _ d) c.generated.ensures.done

pub returns-clause-unwritten : goal.returns-clause-unwritten
returns-clause-unwritten g c = ok_so c.generated.result _ _ (λ due d. made_unwritten _ _ _ _ _ d) c.generated.ensures.done
