use Rattle.mdr_plain.proofs.InterruptProofs.{tells_texts}
use Rattle.mdr_plain.proofs.worked.texts_are_told.Goals as goal

pub returns : goal.returns
returns c = tells_texts
