use Rattle.mdr_sound.proofs.StructsKnown.{struct_known}
use Rattle.mdr_sound.proofs.declaration_laws.structs_are_known.Goals as goal

pub returns : goal.returns
returns c = struct_known
