use Rattle.mdr_texts.proofs.Growing.{text_is}
use Rattle.mdr_texts.proofs.laws.a_text_that_is_read_is_its_plans.Goals as goal

pub returns : goal.returns
returns c = text_is
