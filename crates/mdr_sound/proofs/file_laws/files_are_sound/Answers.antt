use Rattle.mdr_sound.proofs.Filed.{files_sound}
use Rattle.mdr_sound.proofs.file_laws.files_are_sound.Goals as goal

-- src/file_laws.rt:11:1
pub returns : goal.returns
returns c = files_sound
