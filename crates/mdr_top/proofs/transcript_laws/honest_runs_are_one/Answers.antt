use Rattle.mdr_top.proofs.TranscriptHonest.{honest_runs_are_one}
use Rattle.mdr_top.proofs.transcript_laws.honest_runs_are_one.Goals as goal

pub returns : goal.returns
returns c = honest_runs_are_one
