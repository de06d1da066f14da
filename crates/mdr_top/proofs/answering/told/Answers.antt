use Rattle.std.proofs.Common.{ap, ◌∙◌}
use Rattle.std.proofs.lemmas.Result.{IfOk-weaker}
use Rattle.mdr_gen.specs.Answer.{answer_text}
use Rattle.mdr_gen.specs.declared.answer.Counts.{Counts}
use Rattle.mdr_top.specs.Generated.IsTold.{counted, reported}
use Rattle.mdr_top.proofs.answering.told.Goals as goal

pub returns-in-Ok : goal.returns-in-Ok
returns-in-Ok c = IfOk-weaker c.counted.result _ _ (λ due h. counted c.in-Ok.is h.0 (h.1 ∙ ap (λ (k : Counts). answer_text c.args.recipe.seed c.args.recipe.size k) c.counts_of.ensures)) c.counted.ensures

pub returns-in_default : goal.returns-in_default
returns-in_default c = IfOk-weaker c.reported.result _ _ (λ due h. reported c.in_default.not-Ok h) c.reported.ensures
