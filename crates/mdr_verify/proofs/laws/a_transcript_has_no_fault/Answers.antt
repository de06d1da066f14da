use Rattle.mdr_verify.proofs.Once.{no_fault}
use Rattle.mdr_verify.proofs.laws.a_transcript_has_no_fault.Goals as goal

pub returns : goal.returns
returns c = no_fault
