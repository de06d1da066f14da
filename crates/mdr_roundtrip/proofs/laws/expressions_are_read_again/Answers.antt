use Rattle.mdr_roundtrip.proofs.ReadAgain.{expressions_again}
use Rattle.mdr_roundtrip.proofs.ShapingForms.{expressions_are_shaped}
use Rattle.mdr_roundtrip.proofs.laws.expressions_are_read_again.Goals as goal

pub returns-clause-shaped : goal.returns-clause-shaped
returns-clause-shaped c = expressions_are_shaped

pub returns-clause-again : goal.returns-clause-again
returns-clause-again c = expressions_again
