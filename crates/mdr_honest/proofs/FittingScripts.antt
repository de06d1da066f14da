-- A script that is read and bound fits its program.
use Rattle.mdr_honest.specs.Scripts.{ScriptsFit}
use Rattle.mdr_honest.proofs.ScriptTexts.{text_scripts_fit}

pub scripts_fit : ScriptsFit
scripts_fit program bytes script sound is = text_scripts_fit program sound bytes is.read script is.is_read is.is_bound
