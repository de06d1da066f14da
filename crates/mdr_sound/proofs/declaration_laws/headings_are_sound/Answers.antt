use Rattle.mdr_sound.proofs.Headings.{heading_sound}
use Rattle.mdr_sound.proofs.declaration_laws.headings_are_sound.Goals as goal

pub returns : goal.returns
returns c = heading_sound
