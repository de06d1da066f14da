-- believed
-- What a run over an honest far side is reported as.
use Rattle.std.specs.Prelude.{◌≡◌, ◌≢◌, ℕ, ◌+◌, ◌*◌, ◌≤◌, ◌⊎◌, true, List, length, Option, Some}
use Rattle.mdr_core.specs.Backs.{CallsNothingBack}
use Rattle.mdr_core.specs.declared.plan.Plan.{Plan}
use Rattle.mdr_core.specs.declared.program.Program.{Program}
use Rattle.mdr_cut.specs.declared.texts.Texts.{Texts}
use Rattle.mdr_due.specs.declared.status.Status.{Status}
use Rattle.mdr_due.specs.declared.status.Status.TheVariants as status
use Rattle.mdr_due.specs.Reads.{Files}
use Rattle.mdr_honest.specs.Honest.{IsHonest}
use Rattle.mdr_model.specs.Law.{IsOwn}
use Rattle.mdr_outside.specs.Calls.{ShelfCall}
use Rattle.mdr_outside.specs.declared.far.Exchange.{Exchange}
use Rattle.mdr_outside.specs.declared.far.LoadAnswer.TheVariants as loads
use Rattle.mdr_outside.specs.declared.far.Loaded.{Loaded}
use Rattle.mdr_outside.specs.Far.{loaded_with}
use Rattle.mdr_outside.specs.Sides.{FarSide}
use Rattle.mdr_plain.specs.declared.outcome.Outcome.{Outcome}
use Rattle.mdr_plain.specs.Outcome.{outcome_of}
use Rattle.mdr_top.specs.declared.manner.Manner.{Manner}
use Rattle.mdr_top.specs.WholeRuns.{IsRun}
use Rattle.mdr_top.specs.Scripts.{IsScriptOf}
use Rattle.mdr_bound.specs.declared.bound.Bound.{Bound}
use Rattle.mdr_slicer.specs.Slicing.{IsSourceOf}
use Rattle.mdr_source.specs.declared.outcome.Source.{Source}
use Rattle.mdr_top.specs.CutInto.{IsCutInto}
use Rattle.mdr_top.specs.Layouts.{with_lines}
use Rattle.mdr_top.specs.declared.split_manner.SplitManner.{SplitManner}
use Rattle.mdr_top.specs.Reports.{Reported}
use Rattle.mdr_top.specs.SplitRuns.{SplitRuns}
use Rattle.mdr_watched.specs.Watched.{watched}

-- the outcome of the run on one memory whose user half is held to its annotations
abbrev pub meant : Program → Plan → Bound → (ticks : ℕ) → Outcome
meant program plan script ticks = outcome_of program (watched program plan script ticks)

-- its status and report, within 8 messages for each tick and 6 for each command that called a function, and within 4 and 6 where the driver calls nothing back
pub record IsMeaning (program : Program) (plan : Plan) (script : Bound) (ticks : ℕ) (es : List Exchange) (s : Status) (text : List ℕ) : Type 0 where
  pub reported : Reported program (meant program plan script ticks) s text
  pub own : IsOwn (meant program plan script ticks).end
  pub messages : 2 * length es ≤ 8 * (meant program plan script ticks).ticks + 6 * (watched program plan script ticks).world.kept.calls
  pub fewer : CallsNothingBack program → 2 * length es ≤ 4 * (meant program plan script ticks).ticks + 6 * (watched program plan script ticks).world.kept.calls

-- the manner of that run
abbrev pub while_watched : (ticks : ℕ) → Manner
while_watched ticks = record { ticks = ticks; watched = true }

-- these very reads gave the source and the script, the far side holds the texts that the source is cut into, and what is due is what they mean, and what the same run on one memory is reported as; behind it stand, where they are asked for, the lines of the messages, and that of the layout of the same run on one memory
pub record SplitMeansBy (files : Files) (source_name script_name : List ℕ) (manner : SplitManner) (old new : List ShelfCall) (loaded : Option Loaded) (es : List Exchange) (s : Status) (text : List ℕ) : Type 0 where
  pub source : Source
  pub script : Bound
  pub between : List ShelfCall
  pub source_is : IsSourceOf files source_name old between source
  pub script_is : IsScriptOf files source.program script_name between new script
  pub plan : Plan
  pub texts : Texts
  pub cut : IsCutInto source plan texts
  pub held : loaded ≡ Some (loaded_with texts.user texts.plan loads.Ok)
  pub report : List ℕ
  pub shown : text ≡ with_lines manner es (watched source.program plan script manner.ticks).world report
  pub meaning : IsMeaning source.program plan script manner.ticks es s report
  pub same : IsRun source.program script (while_watched manner.ticks) s report

-- no reply is refused, and a run that is done or that stopped is what its source and its script mean
pub record SplitMeans (files : Files) (source_name script_name : List ℕ) (manner : SplitManner) (old new : List ShelfCall) (loaded : Option Loaded) (es : List Exchange) (s : Status) (text : List ℕ) : Type 0 where
  pub never : s ≢ status.Marshal
  pub means : (s ≡ status.Done) ⊎ (s ≡ status.Stopped) → SplitMeansBy files source_name script_name manner old new loaded es s text

-- whatever else the far side does, where it is honest
abbrev pub SplitRunsMean : Type 0
SplitRunsMean =
    (files : Files) (source_name script_name : List ℕ) (manner : SplitManner) (old new : List ShelfCall) (far far' : FarSide) (s : Status) (text : List ℕ)
    → SplitRuns files source_name script_name manner old new far far' s text → IsHonest far'.loaded far'.exchanges → SplitMeans files source_name script_name manner old new far'.loaded far'.exchanges s text
