use Rattle.mdr_sound.proofs.Filed.{types_of_files}
use Rattle.mdr_sound.proofs.file_laws.types_of_files_are_formed.Goals as goal

-- src/file_laws.rt:6:1
pub returns : goal.returns
returns c = types_of_files
