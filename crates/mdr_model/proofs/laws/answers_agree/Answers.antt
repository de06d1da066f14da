use Rattle.mdr_model.proofs.AgreedAnswers.{answered}
use Rattle.mdr_model.proofs.laws.answers_agree.Goals as goal

pub returns : goal.returns
returns c = λ program known next next' view view' results copy m w u w' r f keeps. answered program view' results w' r f keeps
