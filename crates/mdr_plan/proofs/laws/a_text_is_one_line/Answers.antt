use Rattle.mdr_plan.proofs.Once.{line_once}
use Rattle.mdr_plan.proofs.laws.a_text_is_one_line.Goals as goal

pub returns : goal.returns
returns c = line_once
