use Rattle.mdr_top.proofs.Said.{verified_transcripts_are_printed}
use Rattle.mdr_top.proofs.transcript_laws.verified_transcripts_are_printed.Goals as goal

pub returns : goal.returns
returns c = verified_transcripts_are_printed
