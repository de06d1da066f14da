use Rattle.mdr_meaning.proofs.ExpressionLaws.{expressions_are_fair, lvalues_are_fair}
use Rattle.mdr_meaning.proofs.laws.expressions_are_fair.Goals as goal

pub returns : goal.returns
returns c = record { values = expressions_are_fair; addresses = lvalues_are_fair }
