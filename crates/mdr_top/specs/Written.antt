-- protocol
-- What is printed over an honest far side, by the bodies of the source as they were written: what its calls, `++`, `?:`, `switch` and `do` mean directly, and not what they are lowered to.
use Rattle.std.specs.Prelude.{◌≡◌, ◌⊎◌, ℕ, List, Some}
use Rattle.mdr_due.specs.declared.status.Status.{Status}
use Rattle.mdr_due.specs.declared.status.Status.TheVariants as status
use Rattle.mdr_honest.specs.Honest.{IsHonest}
use Rattle.mdr_plain.specs.Outcome.{outcome_of}
use Rattle.mdr_rich_sources.specs.Bodies.{tree_bodies}
use Rattle.mdr_rich_sources.specs.Runs.{written_run}
use Rattle.mdr_top.specs.declared.split_manner.SplitManner.{SplitManner}
use Rattle.mdr_top.specs.Reports.{Reported}
use Rattle.mdr_top.specs.declared.words.Way.TheVariants as way
use Rattle.mdr_top.specs.Headline.{MeansBy}
use Rattle.mdr_top.specs.Outside.{Outside}
use Rattle.mdr_top.specs.Words.{OfFiles, Run, command_of}

-- what was written is also the report of the watched run by those bodies
pub record MeansAsWrittenBy (words : List (List ℕ)) (before after : Outside) (s : Status) : Type 0 where
  pub by : MeansBy words before after s
  pub reported : Reported by.source.program (outcome_of by.source.program (written_run by.source.program by.plan (tree_bodies by.source.tree) by.script by.manner.ticks)) s by.text

-- over an honest far side, where the words name a source and a script and the run ends by itself, or stops
abbrev pub MeansAsWritten : List (List ℕ) → (before after : Outside) → Status → Type 0
MeansAsWritten words before after s =
    IsHonest after.sides.far.loaded after.sides.far.exchanges → (source_name script_name : List ℕ) (manner : SplitManner)
    → command_of words ≡ Some (Run (OfFiles source_name script_name) (way.Split manner)) → (s ≡ status.Done) ⊎ (s ≡ status.Stopped) → MeansAsWrittenBy words before after s
