use Rattle.mdr_half_program.proofs.Suited.{functions_suited}
use Rattle.mdr_half_program.proofs.piece_laws.plans_suit_their_functions.Goals as goal

pub returns : goal.returns
returns c = functions_suited
