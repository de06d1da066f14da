use Rattle.mdr_honest.proofs.HalfSounding.{halves_sound}
use Rattle.mdr_honest.proofs.half_laws.halves_are_sound.Goals as goal

-- src/half_laws.rt:8:1
pub returns : goal.returns
returns c = halves_sound
