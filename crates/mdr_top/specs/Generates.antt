-- protocol
-- What making a driver and a script and running them does to the far side, and what is due for it. The two texts of a seed are a source and a script.
use Rattle.std.specs.Prelude.{◌≡◌, ℕ, List}
use Rattle.mdr_due.specs.declared.status.Status.{Status}
use Rattle.mdr_gen.specs.Generator.{driver_text, lines_from}
use Rattle.mdr_outside.specs.Sides.{FarSide}
use Rattle.mdr_top.specs.Scripts.{HasScript}
use Rattle.mdr_bound.specs.declared.bound.Bound.{Bound}
use Rattle.mdr_slicer.specs.Slicing.{HasSource}
use Rattle.mdr_source.specs.declared.outcome.Source.{Source}
use Rattle.mdr_top.specs.SplitRuns.{IsSplitPart}
use Rattle.mdr_top.specs.declared.recipe.Recipe.{Recipe}
use Rattle.mdr_top.specs.Generated.{budget, IsGeneratedRun}

-- ---- a driver, and a script's text

pub record GeneratesOver (recipe : Recipe) (source : Source) (lines : List ℕ) (far far' : FarSide) (s : Status) (text : List ℕ) : Type 0 where
  pub script : Bound
  pub bound : HasScript source.program lines script
  pub run : IsGeneratedRun recipe source script far far' s text

-- as much of it was done as memory was there for
pub data GeneratesOverPart (source : Source) (lines : List ℕ) (far far' : FarSide) : Type 0 where
  unread : far' ≡ far → GeneratesOverPart source lines far far'
  ran_part : (script : Bound) → HasScript source.program lines script → IsSplitPart source script budget far far' → GeneratesOverPart source lines far far'

-- ---- two texts

pub record Generates (recipe : Recipe) (driver lines : List ℕ) (far far' : FarSide) (s : Status) (text : List ℕ) : Type 0 where
  pub source : Source
  pub has : HasSource driver source
  pub over : GeneratesOver recipe source lines far far' s text

pub data GeneratesPart (driver lines : List ℕ) (far far' : FarSide) : Type 0 where
  unread : far' ≡ far → GeneratesPart driver lines far far'
  over_part : (source : Source) → HasSource driver source → GeneratesOverPart source lines far far' → GeneratesPart driver lines far far'

-- ---- those of a seed

abbrev pub IsGenerated : Recipe → (far far' : FarSide) → Status → List ℕ → Type 0
IsGenerated recipe far far' s text = Generates recipe driver_text (lines_from recipe.seed recipe.size) far far' s text

abbrev pub IsGeneratedPart : Recipe → (far far' : FarSide) → Type 0
IsGeneratedPart recipe far far' = GeneratesPart driver_text (lines_from recipe.seed recipe.size) far far'
