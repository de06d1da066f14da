use Rattle.mdr_sound.proofs.Making.{made_sound}
use Rattle.mdr_sound.proofs.body_laws.bodies_are_sound.Goals as goal

-- src/body_laws.rt:7:1
pub returns : goal.returns
returns c = made_sound
