use Rattle.mdr_script.proofs.Once.{no_fault}
use Rattle.mdr_script.proofs.laws.a_scripts_text_has_no_fault.Goals as goal

pub returns : goal.returns
returns c = no_fault
