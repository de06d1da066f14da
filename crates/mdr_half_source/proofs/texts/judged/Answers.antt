use Rattle.mdr_half_source.proofs.Steps.{judged_found}
use Rattle.mdr_half_source.proofs.texts.judged.Goals as goal

pub returns : goal.returns
returns c = λ found is. judged_found found c.args.found c.ok.result c.ok.ensures.value is
