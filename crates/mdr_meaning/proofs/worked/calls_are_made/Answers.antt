use Rattle.mdr_meaning.proofs.WorkedProofs.{calls_out, narrows, deepens}
use Rattle.mdr_meaning.proofs.worked.calls_are_made.Goals as goal

pub returns : goal.returns
returns c = record { through = calls_out; narrowed = narrows; deep = deepens }
