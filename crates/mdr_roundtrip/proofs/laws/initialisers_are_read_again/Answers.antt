use Rattle.mdr_roundtrip.proofs.ReadAgain.{inits_again}
use Rattle.mdr_roundtrip.proofs.ShapingInits.{inits_are_shaped}
use Rattle.mdr_roundtrip.proofs.laws.initialisers_are_read_again.Goals as goal

pub returns-clause-shaped : goal.returns-clause-shaped
returns-clause-shaped c = inits_are_shaped

pub returns-clause-again : goal.returns-clause-again
returns-clause-again c = inits_again
