use Rattle.mdr_kept.proofs.RunLaws.{kept_reports_agree}
use Rattle.mdr_kept.proofs.report_laws.kept_reports_agree.Goals as goal

pub returns : goal.returns
returns c = kept_reports_agree
