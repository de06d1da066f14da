use Rattle.mdr_plan.proofs.Running.{not_continued}
use Rattle.mdr_plan.proofs.laws.no_plans_text_has_a_refused_line.Goals as goal

pub returns : goal.returns
returns c = not_continued
