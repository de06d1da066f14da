-- protocol
-- What is printed of a driver and a script that are made from a seed.
use Rattle.std.specs.Prelude.{◌≡◌, ℕ, ◌+◌, ◌*◌, ◌≤◌, ◌⊎◌, List, length, Some}
use Rattle.mdr_core.specs.Backs.{CallsNothingBack}
use Rattle.mdr_core.specs.declared.plan.Plan.{Plan}
use Rattle.mdr_cut.specs.declared.texts.Texts.{Texts}
use Rattle.mdr_due.specs.declared.status.Status.{Status}
use Rattle.mdr_due.specs.declared.status.Status.TheVariants as status
use Rattle.mdr_gen.specs.Generator.{driver_text, lines_from}
use Rattle.mdr_top.specs.declared.recipe.Recipe.{Recipe}
use Rattle.mdr_top.specs.Generated.{budget, IsTold}
use Rattle.mdr_honest.specs.Honest.{IsHonest}
use Rattle.mdr_top.specs.Scripts.{HasScript}
use Rattle.mdr_bound.specs.declared.bound.Bound.{Bound}
use Rattle.mdr_slicer.specs.Slicing.{HasSource}
use Rattle.mdr_source.specs.declared.outcome.Source.{Source}
use Rattle.mdr_top.specs.CutInto.{IsCutInto}
use Rattle.mdr_top.specs.Means.{meant}
use Rattle.mdr_watched.specs.Watched.{watched}
use Rattle.mdr_top.specs.Headline.{Rests}
use Rattle.mdr_top.specs.Outside.{Outside}
use Rattle.mdr_top.specs.Words.{Generate, command_of}
use Rattle.mdr_top.specs.Writing.{IsWritten}

-- the seed's driver and script are a source and a script, and what was written tells of their run on one memory, user code held to its annotations: its ticks and its live blocks, and how many messages the far side got and answered
pub record MadeMeansBy (words : List (List ℕ)) (before after : Outside) (s : Status) : Type 0 where
  pub recipe : Recipe
  pub command : command_of words ≡ Some (Generate recipe)
  pub source : Source
  pub script : Bound
  pub has : HasSource driver_text source
  pub bound : HasScript source.program (lines_from recipe.seed recipe.size) script
  pub plan : Plan
  pub texts : Texts
  pub cut : IsCutInto source plan texts
  pub text : List ℕ
  pub printed : IsWritten before.out after.out text
  pub told : IsTold recipe source.program after.sides.far.exchanges (meant source.program plan script budget) s text
  pub messages : 2 * length after.sides.far.exchanges ≤ 8 * (meant source.program plan script budget).ticks + 6 * (watched source.program plan script budget).world.kept.calls
  pub fewer : CallsNothingBack source.program → 2 * length after.sides.far.exchanges ≤ 4 * (meant source.program plan script budget).ticks + 6 * (watched source.program plan script budget).world.kept.calls

-- so it is over an honest far side, where the run ends by itself or stops
abbrev pub MadeMeans : List (List ℕ) → (before after : Outside) → Status → Type 0
MadeMeans words before after s =
    IsHonest after.sides.far.loaded after.sides.far.exchanges → (recipe : Recipe) → command_of words ≡ Some (Generate recipe) → (s ≡ status.Done) ⊎ (s ≡ status.Stopped) → MadeMeansBy words before after s

-- it does one of the two, or memory was wanting, where no write fails and the far side is honest and never fails
abbrev pub MadeCompletes : List (List ℕ) → (before after : Outside) → Status → Type 0
MadeCompletes words before after s =
    Rests before.out.faults after.out.faults → Rests before.sides.far.faults after.sides.far.faults → IsHonest after.sides.far.loaded after.sides.far.exchanges → (recipe : Recipe) → command_of words ≡ Some (Generate recipe)
    → (s ≡ status.OutOfMemory) ⊎ MadeMeansBy words before after s
