use Rattle.mdr_sound.proofs.SoundGlobals.{sound_globals}
use Rattle.mdr_sound.proofs.global_laws.globals_are_sound.Goals as goal

-- src/global_laws.rt:6:1
pub returns : goal.returns
returns c = sound_globals
