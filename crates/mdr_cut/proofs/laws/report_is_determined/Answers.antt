use Rattle.mdr_cut.proofs.Determined.{report_is_determined}
use Rattle.mdr_cut.proofs.laws.report_is_determined.Goals as goal

pub returns : goal.returns
returns c = report_is_determined
