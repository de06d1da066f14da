use Rattle.mdr_sound.proofs.Stating.{profile_sound}
use Rattle.mdr_sound.proofs.typing_laws.profile_rules_are_sound.Goals as goal

-- src/laws.rt:8:1
pub returns : goal.returns
returns c = profile_sound
