use Rattle.mdr_slicer.proofs.Steps.{ok_so}
use Rattle.mdr_top.proofs.VerifyLaws.{verified_unfailed, verified_unwritten}
use Rattle.mdr_top.proofs.verifying.verify.Goals as goal

pub returns-clause-unwritten : goal.returns-clause-unwritten
returns-clause-unwritten g c = ok_so c.verified.result _ _ (λ due v. verified_unwritten _ _ _ _ _ _ _ _ v) c.verified.ensures.done

pub returns-clause-unfailed : goal.returns-clause-unfailed
returns-clause-unfailed g c = ok_so c.verified.result _ _ (λ due v. verified_unfailed _ _ _ _ _ _ _ _ v) c.verified.ensures.done
