use Rattle.mdr_verify.proofs.Once.{fault_once}
use Rattle.mdr_verify.proofs.laws.a_text_has_one_fault.Goals as goal

pub returns : goal.returns
returns c = fault_once
