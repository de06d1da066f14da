use Rattle.mdr_script.proofs.WorkedLaws as worked
use Rattle.mdr_script.proofs.laws.lines_are_read.Goals as goal

pub returns : goal.returns
returns c = worked.lines_are_read
