-- protocol
-- What is printed of a script that is run over a source on one memory.
use Rattle.std.specs.Prelude.{◌≡◌, ℕ, ◌⊎◌, List, Some}
use Rattle.mdr_core.specs.Sound.{IsSound}
use Rattle.mdr_outside.specs.declared.shelf.ReadAnswer.TheVariants as reads
use Rattle.mdr_outside.specs.Calls.{Read, and_then}
use Rattle.mdr_bound.specs.declared.bound.Bound.{Bound}
use Rattle.mdr_source.specs.declared.outcome.Source.{Source}
use Rattle.mdr_due.specs.declared.status.Status.{Status}
use Rattle.mdr_due.specs.declared.status.Status.TheVariants as status
use Rattle.mdr_due.specs.Reads.{longest_source, longest_script}
use Rattle.mdr_top.specs.declared.manner.Manner.{Manner}
use Rattle.mdr_top.specs.WholeRuns.{IsRun}
use Rattle.mdr_top.specs.Accepted.{AreAccepted, on_one_memory}
use Rattle.mdr_top.specs.declared.words.Way.TheVariants as way
use Rattle.mdr_top.specs.Words.{OfFiles, Run, command_of}
use Rattle.mdr_top.specs.Outside.{Outside}
use Rattle.mdr_top.specs.Writing.{IsWritten}

-- the words are accepted for what these very reads gave, and what was written is the report of the run on one memory
pub record WholeMeansBy (words : List (List ℕ)) (before after : Outside) (s : Status) : Type 0 where
  pub source : Source
  pub script : Bound
  pub manner : Manner
  pub accepted : AreAccepted words before.sides.shelf.files (on_one_memory manner) source script
  pub sound : IsSound source.program
  pub read : after.sides.shelf.calls ≡ and_then (and_then before.sides.shelf.calls (Read accepted.source_name longest_source (reads.Ok accepted.bytes))) (Read accepted.script_name longest_script (reads.Ok accepted.lines))
  pub text : List ℕ
  pub printed : IsWritten before.out after.out text
  pub meaning : IsRun source.program script manner s text

-- a run on one memory that ends by itself, or stops, is what its source and its script mean
abbrev pub WholeMeans : List (List ℕ) → (before after : Outside) → Status → Type 0
WholeMeans words before after s =
    (source_name script_name : List ℕ) (manner : Manner) → command_of words ≡ Some (Run (OfFiles source_name script_name) (way.Whole manner)) → (s ≡ status.Done) ⊎ (s ≡ status.Stopped) → WholeMeansBy words before after s

-- a status that a run on one memory ends with
abbrev pub IsOfWhole : Status → Type 0
IsOfWhole status.Done = Unit {0}
IsOfWhole status.Usage = ⊥
IsOfWhole status.SourceRefused = Unit {0}
IsOfWhole status.ScriptRefused = Unit {0}
IsOfWhole status.ReadFault = Unit {0}
IsOfWhole status.WriteFault = ⊥
IsOfWhole status.FarFault = ⊥
IsOfWhole status.Marshal = ⊥
IsOfWhole status.Stopped = Unit {0}
IsOfWhole status.OutOfMemory = ⊥
IsOfWhole status.Missing = Unit {0}
IsOfWhole status.TooLarge = Unit {0}
IsOfWhole status.HalvesRefused = ⊥
IsOfWhole status.NotVerified = ⊥
