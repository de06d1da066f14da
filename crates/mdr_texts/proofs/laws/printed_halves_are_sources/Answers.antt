use Rattle.mdr_texts.proofs.HalvesAgain.{half_again}
use Rattle.mdr_texts.proofs.laws.printed_halves_are_sources.Goals as goal

pub returns : goal.returns
returns c = half_again
