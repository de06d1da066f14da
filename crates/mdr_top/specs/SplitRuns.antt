-- believed
-- What running a script over the two halves of a source does to the shelf and to the far side, and what is due for it: one constructor for each way that it goes.
use Rattle.std.specs.Prelude.{◌≡◌, ℕ, List}
use Rattle.mdr_core.specs.declared.plan.Plan.{Plan}
use Rattle.mdr_cut.specs.declared.texts.Texts.{Texts}
use Rattle.mdr_due.specs.declared.status.Status.{Status}
use Rattle.mdr_due.specs.Reads.{Files, WasRead, longest_script, longest_source}
use Rattle.mdr_exchanges.specs.Runs.{sent_of}
use Rattle.mdr_outside.specs.Calls.{ShelfCall}
use Rattle.mdr_outside.specs.Sides.{FarSide}
use Rattle.mdr_plain.specs.declared.outcome.Outcome.{Outcome}
use Rattle.mdr_region.specs.Layout.{places_of}
use Rattle.mdr_top.specs.Scripts.{IsScriptOf, NoScriptOf}
use Rattle.mdr_bound.specs.declared.bound.Bound.{Bound}
use Rattle.mdr_slicer.specs.Slicing.{IsSourceOf, NoSourceOf}
use Rattle.mdr_source.specs.declared.outcome.Source.{Source}
use Rattle.mdr_top.specs.CutInto.{IsCutInto}
use Rattle.mdr_top.specs.declared.split_manner.SplitManner.{SplitManner}
use Rattle.mdr_top.specs.Layouts.{with_lines}
use Rattle.mdr_top.specs.Loads.{LoadedOnce, LoadedPart}
use Rattle.mdr_top.specs.Reports.{Ran, RanTo, world_left}

-- ---- a source and a script

-- the source is cut, the far side is loaded with its texts and gets the run's messages, and this is what the run shows
pub record IsSplitOutcome (source : Source) (script : Bound) (ticks : ℕ) (far far' : FarSide) (o : Outcome) : Type 0 where
  pub plan : Plan
  pub texts : Texts
  pub cut : IsCutInto source plan texts
  pub loads : LoadedOnce texts far.calls far'.calls (sent_of far'.exchanges)
  pub ran : RanTo source.program plan texts script ticks far'.loaded far'.exchanges o

-- so it is, and the state is left whose layout this is
pub record IsSplitLeft (source : Source) (script : Bound) (ticks : ℕ) (far far' : FarSide) (o : Outcome) (layout : ℕ × ℕ) : Type 0 where
  pub outcome : IsSplitOutcome source script ticks far far' o
  pub laid : layout ≡ places_of (world_left source.program outcome.plan script ticks far'.loaded far'.exchanges).lives

-- the source is cut, the far side is loaded with its texts and gets the run's messages, and the report is due
pub record IsSplitRun (source : Source) (script : Bound) (ticks : ℕ) (far far' : FarSide) (s : Status) (text : List ℕ) : Type 0 where
  pub plan : Plan
  pub texts : Texts
  pub cut : IsCutInto source plan texts
  pub loads : LoadedOnce texts far.calls far'.calls (sent_of far'.exchanges)
  pub ran : Ran source.program plan texts script ticks far'.loaded far'.exchanges s text

-- so it is, and the state is left whose layout this is
pub record IsLaidRun (source : Source) (script : Bound) (ticks : ℕ) (far far' : FarSide) (s : Status) (text : List ℕ) (layout : ℕ × ℕ) : Type 0 where
  pub run : IsSplitRun source script ticks far far' s text
  pub laid : layout ≡ places_of (world_left source.program run.plan script ticks far'.loaded far'.exchanges).lives

-- so it is, and behind the report stand the lines of the messages and of the layout, where they are asked for
pub record IsShownRun (source : Source) (script : Bound) (manner : SplitManner) (far far' : FarSide) (s : Status) (text : List ℕ) : Type 0 where
  pub report : List ℕ
  pub run : IsSplitRun source script manner.ticks far far' s report
  pub shown : text ≡ with_lines manner far'.exchanges (world_left source.program run.plan script manner.ticks far'.loaded far'.exchanges) report

-- as much of it was done as memory was there for
pub data IsSplitPart (source : Source) (script : Bound) (ticks : ℕ) (far far' : FarSide) : Type 0 where
  unloaded : far' ≡ far → IsSplitPart source script ticks far far'
  loaded : (plan : Plan) (texts : Texts) → IsCutInto source plan texts → LoadedPart source.program plan texts script ticks far.calls far'.calls far'.exchanges → IsSplitPart source script ticks far far'

-- ---- a source, and a script that is read

pub data SplitRunsOver (files : Files) (source : Source) (name : List ℕ) (manner : SplitManner) (old new : List ShelfCall) (far far' : FarSide) (s : Status) (text : List ℕ) : Type 0 where
  no_script : NoScriptOf files source.program name old new s text → far' ≡ far → SplitRunsOver files source name manner old new far far' s text
  ran : (script : Bound) → IsScriptOf files source.program name old new script → IsShownRun source script manner far far' s text → SplitRunsOver files source name manner old new far far' s text

pub data SplitRunsOverPart (files : Files) (source : Source) (name : List ℕ) (ticks : ℕ) (old new : List ShelfCall) (far far' : FarSide) : Type 0 where
  script_read : WasRead files name longest_script old new → far' ≡ far → SplitRunsOverPart files source name ticks old new far far'
  ran_part : (script : Bound) → IsScriptOf files source.program name old new script → IsSplitPart source script ticks far far' → SplitRunsOverPart files source name ticks old new far far'

-- ---- all of it

-- the source is read and judged, and then the script, and the report of the run is due where there are both, in its manner. The far side is left alone where one is wanting
pub data SplitRuns (files : Files) (source_name script_name : List ℕ) (manner : SplitManner) (old new : List ShelfCall) (far far' : FarSide) (s : Status) (text : List ℕ) : Type 0 where
  no_source : NoSourceOf files source_name old new s text → far' ≡ far → SplitRuns files source_name script_name manner old new far far' s text
  no_script : (source : Source) (between : List ShelfCall) → IsSourceOf files source_name old between source → NoScriptOf files source.program script_name between new s text → far' ≡ far → SplitRuns files source_name script_name manner old new far far' s text
  ran : (source : Source) (script : Bound) (between : List ShelfCall) → IsSourceOf files source_name old between source → IsScriptOf files source.program script_name between new script → IsShownRun source script manner far far' s text
      → SplitRuns files source_name script_name manner old new far far' s text

-- as much of it was done as memory was there for
pub data SplitRunsPart (files : Files) (source_name script_name : List ℕ) (ticks : ℕ) (old new : List ShelfCall) (far far' : FarSide) : Type 0 where
  source_read : WasRead files source_name longest_source old new → far' ≡ far → SplitRunsPart files source_name script_name ticks old new far far'
  script_read : (source : Source) (between : List ShelfCall) → IsSourceOf files source_name old between source → WasRead files script_name longest_script between new → far' ≡ far → SplitRunsPart files source_name script_name ticks old new far far'
  ran_part : (source : Source) (script : Bound) (between : List ShelfCall) → IsSourceOf files source_name old between source → IsScriptOf files source.program script_name between new script → IsSplitPart source script ticks far far'
      → SplitRunsPart files source_name script_name ticks old new far far'
