use Rattle.mdr_split.proofs.Unchanged.{refused_changes_nothing}
use Rattle.mdr_split.proofs.laws.refused_answers_change_nothing.Goals as goal

pub returns : goal.returns
returns c = refused_changes_nothing
