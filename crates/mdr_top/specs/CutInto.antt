-- believed
-- What a source is cut into for a run.
use Rattle.mdr_core.specs.declared.plan.Plan.{Plan}
use Rattle.mdr_cut.specs.declared.texts.Texts.{Texts}
use Rattle.mdr_cut.specs.Cuts.{AreTexts, IsPlanOf}
use Rattle.mdr_source.specs.declared.outcome.Source.{Source}

-- the source's plan, and the texts of its halves and of the plan
pub record IsCutInto (source : Source) (plan : Plan) (texts : Texts) : Type 0 where
  pub plan_is : IsPlanOf source.program plan
  pub are_texts : AreTexts source.tree source.program texts
