-- The statuses of a driver and a script that are made and run.
use Rattle.std.proofs.Common.{◌≢◌, ℕ, List}
use Rattle.mdr_due.specs.declared.status.Status.{Status}
use Rattle.mdr_due.specs.declared.status.Status.TheVariants as status
use Rattle.mdr_due.specs.Statuses.{Counts, HasReadCause}
use Rattle.mdr_gen.specs.Generator.{driver_text, lines_from}
use Rattle.mdr_top.proofs.SeedSteps.{generated_holds}
use Rattle.mdr_top.specs.declared.recipe.Recipe.{Recipe}
use Rattle.mdr_top.specs.Generates.{IsGenerated}
use Rattle.mdr_model.specs.declared.outcome.End.{End}
use Rattle.mdr_model.specs.declared.outcome.End.TheVariants as ends
use Rattle.mdr_outside.specs.Sides.{FarSide}
use Rattle.mdr_top.specs.WholeRuns.{status_of}

-- none tells of a file
pub made_reads : (recipe : Recipe) (far far' : FarSide) (s : Status) (text : List ℕ) → IsGenerated recipe far far' s text → (before after : Counts) → HasReadCause before after s
made_reads recipe far far' s text d before after = generated_holds (HasReadCause before after) of recipe driver_text (lines_from recipe.seed recipe.size) far far' s text d
  where
    of : (end : End) → HasReadCause before after (status_of end)
    of ends.Ok = tt
    of (ends.Stop kind at) = tt
    of (ends.Refused exchange cause number) = tt
    of (ends.FarFault exchange) = tt

-- and none is a write fault
pub made_unwritten : (recipe : Recipe) (far far' : FarSide) (s : Status) (text : List ℕ) → IsGenerated recipe far far' s text → s ≢ status.WriteFault
made_unwritten recipe far far' s text d = generated_holds (λ x. x ≢ status.WriteFault) of recipe driver_text (lines_from recipe.seed recipe.size) far far' s text d
  where
    of : (end : End) → status_of end ≢ status.WriteFault
    of ends.Ok = λ e. Prim.cc
    of (ends.Stop kind at) = λ e. Prim.cc
    of (ends.Refused exchange cause number) = λ e. Prim.cc
    of (ends.FarFault exchange) = λ e. Prim.cc
