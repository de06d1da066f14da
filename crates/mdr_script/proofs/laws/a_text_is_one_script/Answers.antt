use Rattle.mdr_script.proofs.Once.{script_once}
use Rattle.mdr_script.proofs.laws.a_text_is_one_script.Goals as goal

pub returns : goal.returns
returns c = script_once
