use Rattle.mdr_sound.proofs.Structs.{struct_sound}
use Rattle.mdr_sound.proofs.declaration_laws.structs_are_sound.Goals as goal

pub returns : goal.returns
returns c = struct_sound
