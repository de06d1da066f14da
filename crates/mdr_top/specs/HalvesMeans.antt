-- protocol
-- What a run from texts over an honest far side is reported as.
use Rattle.std.specs.Prelude.{◌≡◌, ◌≢◌, ℕ, ◌⊎◌, List, Option, Some}
use Rattle.mdr_core.specs.declared.plan.Plan.{Plan}
use Rattle.mdr_bound.specs.declared.bound.Bound.{Bound}
use Rattle.mdr_due.specs.declared.status.Status.{Status}
use Rattle.mdr_due.specs.declared.status.Status.TheVariants as status
use Rattle.mdr_due.specs.Reads.{Files}
use Rattle.mdr_honest.specs.Honest.{IsHonest}
use Rattle.mdr_outside.specs.Calls.{ShelfCall}
use Rattle.mdr_outside.specs.declared.far.Exchange.{Exchange}
use Rattle.mdr_outside.specs.declared.far.LoadAnswer.TheVariants as loads
use Rattle.mdr_outside.specs.declared.far.Loaded.{Loaded}
use Rattle.mdr_outside.specs.Far.{loaded_with}
use Rattle.mdr_outside.specs.Sides.{FarSide}
use Rattle.mdr_top.specs.WholeRuns.{IsRun}
use Rattle.mdr_top.specs.Scripts.{IsScriptOf}
use Rattle.mdr_source.specs.declared.outcome.Source.{Source}
use Rattle.mdr_top.specs.CutInto.{IsCutInto}
use Rattle.mdr_top.specs.declared.split_manner.SplitManner.{SplitManner}
use Rattle.mdr_top.specs.Layouts.{with_lines}
use Rattle.mdr_top.specs.Means.{IsMeaning, while_watched}
use Rattle.mdr_watched.specs.Watched.{watched}
use Rattle.mdr_top.specs.Names.{TextNames}
use Rattle.mdr_top.specs.HalvesRuns.{HalvesRuns}
use Rattle.mdr_top.specs.Sources.{IsSourceIn}

-- these very reads gave the texts and the script, the far side holds the texts of the user half and of the plan, and what is due is what their source means, and what the same run on one memory is reported as
pub record HalvesMeanBy (files : Files) (names : TextNames) (script_name : List ℕ) (manner : SplitManner) (old new : List ShelfCall) (loaded : Option Loaded) (es : List Exchange) (s : Status) (text : List ℕ) : Type 0 where
  pub source : Source
  pub script : Bound
  pub between : List ShelfCall
  pub source_is : IsSourceIn files names old between source
  pub script_is : IsScriptOf files source.program script_name between new script
  pub plan : Plan
  pub cut : IsCutInto source plan source_is.texts
  pub held : loaded ≡ Some (loaded_with source_is.texts.user source_is.texts.plan loads.Ok)
  pub report : List ℕ
  pub shown : text ≡ with_lines manner es (watched source.program plan script manner.ticks).world report
  pub meaning : IsMeaning source.program plan script manner.ticks es s report
  pub same : IsRun source.program script (while_watched manner.ticks) s report

-- no reply is refused, and a run that is done or that stopped is what its source and its script mean
pub record HalvesMean (files : Files) (names : TextNames) (script_name : List ℕ) (manner : SplitManner) (old new : List ShelfCall) (loaded : Option Loaded) (es : List Exchange) (s : Status) (text : List ℕ) : Type 0 where
  pub never : s ≢ status.Marshal
  pub means : (s ≡ status.Done) ⊎ (s ≡ status.Stopped) → HalvesMeanBy files names script_name manner old new loaded es s text

-- whatever else the far side does, where it is honest
abbrev pub HalvesRunsMean : Type 0
HalvesRunsMean =
    (files : Files) (names : TextNames) (script_name : List ℕ) (manner : SplitManner) (old new : List ShelfCall) (far far' : FarSide) (s : Status) (text : List ℕ)
    → HalvesRuns files names script_name manner old new far far' s text → IsHonest far'.loaded far'.exchanges → HalvesMean files names script_name manner old new far'.loaded far'.exchanges s text
