use Rattle.mdr_sound.proofs.Annotating.{annotation_sound}
use Rattle.mdr_sound.proofs.declaration_laws.annotations_are_sound.Goals as goal

pub returns : goal.returns
returns c = annotation_sound
