use Rattle.mdr_kept.proofs.ShownLaws.{strict_reports_agree}
use Rattle.mdr_kept.proofs.laws.strict_reports_agree.Goals as goal

pub returns : goal.returns
returns c = strict_reports_agree
