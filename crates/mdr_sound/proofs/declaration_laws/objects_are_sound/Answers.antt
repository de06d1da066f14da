use Rattle.mdr_sound.proofs.Objects.{object_sound}
use Rattle.mdr_sound.proofs.declaration_laws.objects_are_sound.Goals as goal

pub returns : goal.returns
returns c = object_sound
