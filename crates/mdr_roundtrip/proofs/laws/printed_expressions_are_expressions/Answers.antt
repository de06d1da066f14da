use Rattle.mdr_roundtrip.proofs.RereadExpressions.{expressions_reread}
use Rattle.mdr_roundtrip.proofs.laws.printed_expressions_are_expressions.Goals as goal

pub returns : goal.returns
returns c = expressions_reread
