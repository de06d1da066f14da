use Rattle.mdr_half_program.proofs.Bodied.{no_use_asked}
use Rattle.mdr_half_program.proofs.piece_laws.no_use_is_asked_for.Goals as goal

pub returns : goal.returns
returns c = no_use_asked
