-- believed
-- What is printed over an honest far side, and where it is.
use Rattle.std.specs.Prelude.{◌≡◌, ◌≢◌, ℕ, ◌⊎◌, List, Some, IsSomeAnd}
use Rattle.mdr_core.specs.Sound.{IsSound}
use Rattle.mdr_core.specs.declared.plan.Plan.{Plan}
use Rattle.mdr_core.specs.declared.program.Program.{Program}
use Rattle.mdr_cut.specs.declared.texts.Texts.{Texts}
use Rattle.mdr_due.specs.declared.status.Status.{Status}
use Rattle.mdr_due.specs.declared.status.Status.TheVariants as status
use Rattle.mdr_due.specs.Reads.{Files, longest_source, longest_script}
use Rattle.mdr_honest.specs.Honest.{IsHonest}
use Rattle.mdr_model.specs.Law.{IsOwn}
use Rattle.mdr_outside.specs.Calls.{Read, and_then}
use Rattle.mdr_outside.specs.Count.{Rose}
use Rattle.mdr_outside.specs.declared.far.LoadAnswer.TheVariants as loads
use Rattle.mdr_outside.specs.declared.shelf.ReadAnswer.TheVariants as reads
use Rattle.mdr_outside.specs.Far.{loaded_with}
use Rattle.mdr_top.specs.WholeRuns.{EndsWith, IsRun}
use Rattle.mdr_bound.specs.declared.bound.Bound.{Bound}
use Rattle.mdr_source.specs.declared.outcome.Source.{Source}
use Rattle.mdr_top.specs.CutInto.{IsCutInto}
use Rattle.mdr_top.specs.declared.split_manner.SplitManner.{SplitManner}
use Rattle.mdr_top.specs.Layouts.{with_lines}
use Rattle.mdr_top.specs.Means.{IsMeaning, while_watched}
use Rattle.mdr_top.specs.Accepted.{AreAccepted, over_two_halves}
use Rattle.mdr_top.specs.declared.words.Way.TheVariants as way
use Rattle.mdr_top.specs.Outside.{Outside}
use Rattle.mdr_top.specs.Words.{OfFiles, Run, command_of}
use Rattle.mdr_top.specs.Writing.{IsWritten}
use Rattle.mdr_watched.specs.Watched.{watched}

-- the words are accepted for what these very reads gave, the far side holds the texts that the source is cut into, and what was written is the report of what they mean, which is that of the same run on one memory, within 8 messages for each tick and 6 for each command that called a function, and within 4 and 6 where the driver calls nothing back; behind it, where they are asked for, the lines of the messages that the far side got and of its answers, and that of the layout of the memory of that run
pub record MeansBy (words : List (List ℕ)) (before after : Outside) (s : Status) : Type 0 where
  pub source : Source
  pub script : Bound
  pub manner : SplitManner
  pub accepted : AreAccepted words before.sides.shelf.files (over_two_halves manner) source script
  pub sound : IsSound source.program
  pub read : after.sides.shelf.calls ≡ and_then (and_then before.sides.shelf.calls (Read accepted.source_name longest_source (reads.Ok accepted.bytes))) (Read accepted.script_name longest_script (reads.Ok accepted.lines))
  pub plan : Plan
  pub texts : Texts
  pub cut : IsCutInto source plan texts
  pub held : after.sides.far.loaded ≡ Some (loaded_with texts.user texts.plan loads.Ok)
  pub text : List ℕ
  pub printed : IsWritten before.out after.out (with_lines manner after.sides.far.exchanges (watched source.program plan script manner.ticks).world text)
  pub meaning : IsMeaning source.program plan script manner.ticks after.sides.far.exchanges s text
  pub same : IsRun source.program script (while_watched manner.ticks) s text

-- no reply is refused, and where the words name a source and a script a run that ends by itself, or stops, is what its source and its script mean
pub record Means (words : List (List ℕ)) (before after : Outside) (s : Status) : Type 0 where
  pub never : s ≢ status.Marshal
  pub means : (source_name script_name : List ℕ) (manner : SplitManner) → command_of words ≡ Some (Run (OfFiles source_name script_name) (way.Split manner)) → (s ≡ status.Done) ⊎ (s ≡ status.Stopped) → MeansBy words before after s

-- over an honest far side
abbrev pub MeansWhereHonest : List (List ℕ) → (before after : Outside) → Status → Type 0
MeansWhereHonest words before after s = IsHonest after.sides.far.loaded after.sides.far.exchanges → Means words before after s

-- ---- nothing outside fails

-- a count didn't rise
abbrev pub Rests : (before after : ℕ) → Type 0
Rests before after = Rose before after → ⊥

-- no read failed, and no write of the output
pub record RestsHere (before after : Outside) : Type 0 where
  pub reads : Rests before.sides.shelf.faults after.sides.shelf.faults
  pub writes : Rests before.out.faults after.out.faults

abbrev pub AreTold : Files → Type 0
AreTold files = IsSomeAnd files (λ f. Unit {0})

-- the status is that of the run on one memory whose user half is held to its annotations
pub record EndsAsMeant (program : Program) (script : Bound) (ticks : ℕ) (s : Status) : Type 0 where
  pub ends : EndsWith program script (while_watched ticks) s
  pub own : IsOwn ends.outcome.end

-- where the words are accepted over files that are told the run ends as is meant, or memory was wanting
abbrev pub EndsWhereAccepted : List (List ℕ) → Files → Status → Type 0
EndsWhereAccepted words files s =
    (source : Source) (script : Bound) (manner : SplitManner) → AreTold files → AreAccepted words files (over_two_halves manner) source script → (s ≡ status.OutOfMemory) ⊎ EndsAsMeant source.program script manner.ticks s

-- so it is where nothing outside fails and the far side is honest
abbrev pub Completes : List (List ℕ) → (before after : Outside) → Status → Type 0
Completes words before after s =
    RestsHere before after → Rests before.sides.far.faults after.sides.far.faults → IsHonest after.sides.far.loaded after.sides.far.exchanges → EndsWhereAccepted words before.sides.shelf.files s
