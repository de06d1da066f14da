use Rattle.mdr_verify.proofs.Once.{transcript_once}
use Rattle.mdr_verify.proofs.laws.a_text_is_one_transcript.Goals as goal

pub returns : goal.returns
returns c = transcript_once
