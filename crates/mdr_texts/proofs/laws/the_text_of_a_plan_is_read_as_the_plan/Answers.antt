use Rattle.mdr_texts.proofs.Canonicals.{canonical_is_read}
use Rattle.mdr_texts.proofs.laws.the_text_of_a_plan_is_read_as_the_plan.Goals as goal

pub returns : goal.returns
returns c = canonical_is_read
