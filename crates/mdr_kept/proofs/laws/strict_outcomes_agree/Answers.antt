use Rattle.mdr_kept.proofs.ShownLaws.{strict_outcomes_agree}
use Rattle.mdr_kept.proofs.laws.strict_outcomes_agree.Goals as goal

pub returns : goal.returns
returns c = strict_outcomes_agree
