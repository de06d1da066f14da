-- protocol
-- What running a script over two halves does, from their texts, to the shelf and to the far side, and what is due for it.
use Rattle.std.specs.Prelude.{◌≡◌, ℕ, List}
use Rattle.mdr_due.specs.declared.due.Due.{Due}
use Rattle.mdr_due.specs.declared.status.Status.{Status}
use Rattle.mdr_due.specs.Reads.{Files}
use Rattle.mdr_outside.specs.Calls.{ShelfCall}
use Rattle.mdr_outside.specs.Sides.{FarSide}
use Rattle.mdr_source.specs.declared.outcome.Source.{Source}
use Rattle.mdr_top.specs.declared.split_manner.SplitManner.{SplitManner}
use Rattle.mdr_top.specs.Sides.{Change}
use Rattle.mdr_top.specs.SplitRuns.{SplitRunsOver, SplitRunsOverPart}
use Rattle.mdr_top.specs.Names.{TextNames}
use Rattle.mdr_top.specs.Reads.{TextsPart}
use Rattle.mdr_top.specs.Sources.{IsSourceIn, NoSourceIn}

module _ (files : Files) (names : TextNames) (script_name : List ℕ) where
  -- the texts are read and judged, and then the script, and the report of the run is due where there are both. The far side is left alone where there is no source
  pub data HalvesRuns (manner : SplitManner) (old new : List ShelfCall) (far far' : FarSide) (s : Status) (text : List ℕ) : Type 0 where
    no_source : NoSourceIn files names old new s text → far' ≡ far → HalvesRuns manner old new far far' s text
    sourced : (source : Source) (between : List ShelfCall) → IsSourceIn files names old between source → SplitRunsOver files source script_name manner between new far far' s text → HalvesRuns manner old new far far' s text

  -- as much of it was done as memory was there for
  pub data HalvesPart (ticks : ℕ) (old new : List ShelfCall) (far far' : FarSide) : Type 0 where
    texts_read : TextsPart files names old new → far' ≡ far → HalvesPart ticks old new far far'
    sourced_part : (source : Source) (between : List ShelfCall) → IsSourceIn files names old between source → SplitRunsOverPart files source script_name ticks between new far far' → HalvesPart ticks old new far far'

-- ---- the same of what functions give

abbrev pub HalvesRunsBy : (names : TextNames) (script_name : List ℕ) → SplitManner → Change → Due → Type 0
HalvesRunsBy names script_name manner c due = HalvesRuns c.before.shelf.files names script_name manner c.before.shelf.calls c.after.shelf.calls c.before.far c.after.far due.status due.text.items

abbrev pub HalvesPartBy : (names : TextNames) (script_name : List ℕ) (ticks : ℕ) → Change → Type 0
HalvesPartBy names script_name ticks c = HalvesPart c.before.shelf.files names script_name ticks c.before.shelf.calls c.after.shelf.calls c.before.far c.after.far
