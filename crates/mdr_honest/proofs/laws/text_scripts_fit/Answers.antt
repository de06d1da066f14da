use Rattle.mdr_honest.proofs.ScriptTexts.{text_scripts_fit}
use Rattle.mdr_honest.proofs.laws.text_scripts_fit.Goals as goal

pub returns : goal.returns
returns c = text_scripts_fit
