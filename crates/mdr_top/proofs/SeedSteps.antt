-- The stages of running a seed's driver and script.
use Rattle.std.proofs.Common.{◌≡◌, ℕ, List, sym, ap, ◌∙◌, subst}
use Rattle.mdr_core.specs.declared.program.Program.{Program}
use Rattle.mdr_due.specs.declared.status.Status.{Status}
use Rattle.mdr_gen.specs.Generator.{driver_text, lines_from}
use Rattle.mdr_model.specs.declared.outcome.End.{End}
use Rattle.mdr_outside.specs.declared.far.Exchange.{Exchange}
use Rattle.mdr_outside.specs.Sides.{FarSide}
use Rattle.mdr_plain.specs.declared.outcome.Outcome.{Outcome}
use Rattle.mdr_top.specs.WholeRuns.{status_of}
use Rattle.mdr_bound.specs.declared.bound.Bound.{Bound}
use Rattle.mdr_source.specs.declared.outcome.Source.{Source}
use Rattle.mdr_top.specs.SplitRuns.{IsSplitOutcome}
use Rattle.mdr_top.specs.declared.recipe.Recipe.{Recipe}
use Rattle.mdr_top.specs.Generated.{budget, IsGeneratedRun, IsTold}
use Rattle.mdr_top.specs.Generates.{Generates, GeneratesPart, IsGenerated, IsGeneratedPart}

-- ---- a run

-- what is told has the status of the run's end
pub told_status : (recipe : Recipe) (program : Program) (es : List Exchange) (o : Outcome) (s : Status) (text : List ℕ) → IsTold recipe program es o s text → s ≡ status_of o.end
told_status recipe program es o s text (IsTold.counted is done t) = done ∙ sym (ap status_of is)
told_status recipe program es o s text (IsTold.reported not r) = r.status_is

pub generated_so : (recipe : Recipe) (source : Source) (script : Bound) (far far' : FarSide) (o : Outcome) (es : List Exchange) (s : Status) (text : List ℕ) → IsSplitOutcome source script budget far far' o → es ≡ far'.exchanges → IsTold recipe source.program es o s text
    → IsGeneratedRun recipe source script far far' s text
generated_so recipe source script far far' o es s text run same told = record { outcome = o; run = run; told = subst (λ (xs : List Exchange). IsTold recipe source.program xs o s text) same told }

-- what holds of the statuses of all ends of a run holds of what is due
pub generated_holds : (P : Status → Type 0) → ((end : End) → P (status_of end)) → (recipe : Recipe) (driver lines : List ℕ) (far far' : FarSide) (s : Status) (text : List ℕ) → Generates recipe driver lines far far' s text → P s
generated_holds P ends recipe driver lines far far' s text g =
    subst P (sym (told_status recipe g.source.program far'.exchanges g.over.run.outcome s text g.over.run.told)) (ends g.over.run.outcome.end)

-- ---- the texts of a seed

module _ (recipe : Recipe) (driver lines : List ℕ) (driver_is : driver ≡ driver_text) (lines_are : lines ≡ lines_from recipe.seed recipe.size) (far far' : FarSide) where
  pub is_generated : (s : Status) (text : List ℕ) → Generates recipe driver lines far far' s text → IsGenerated recipe far far' s text
  is_generated s text g = subst (λ (ls : List ℕ). Generates recipe driver_text ls far far' s text) lines_are (subst (λ (d : List ℕ). Generates recipe d lines far far' s text) driver_is g)

  pub is_generated_part : GeneratesPart driver lines far far' → IsGeneratedPart recipe far far'
  is_generated_part g = subst (λ (ls : List ℕ). GeneratesPart driver_text ls far far') lines_are (subst (λ (d : List ℕ). GeneratesPart d lines far far') driver_is g)
