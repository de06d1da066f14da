use Rattle.mdr_binary.specs.Choices.{choice_rule}
use Rattle.mdr_binary.proofs.choice.choice_rule.Goals as goal

pub returns : goal.returns
unfolding choice_rule
returns c t a b ht ha hb = c.choice_checked.ensures t _ ht (c.arms_checked-arms.ensures a b ha hb)
