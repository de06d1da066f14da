use Rattle.mdr_sound.proofs.Sourced.{sources_sound}
use Rattle.mdr_sound.proofs.laws.sources_are_sound.Goals as goal

-- src/laws.rt:12:1
pub returns : goal.returns
returns c = sources_sound
