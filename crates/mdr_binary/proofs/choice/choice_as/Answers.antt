use Rattle.mdr_binary.specs.Choices.{choice_as}
use Rattle.mdr_binary.proofs.choice.choice_as.Goals as goal

pub returns : goal.returns
unfolding choice_as
returns c = c.choice_where.ensures _ _ (c.arms_made-arms.ensures _ _ c.converted_at-one.ensures c.converted_at-other.ensures)
