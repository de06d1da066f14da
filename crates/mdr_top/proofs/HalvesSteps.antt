-- The stages of a run from texts.
use Rattle.std.proofs.Common.{◌≡◌, ℕ, List, subst}
use Rattle.mdr_cut.specs.declared.texts.Texts.{Texts}
use Rattle.mdr_due.specs.declared.due.Stage.{Stage}
use Rattle.mdr_due.specs.declared.due.Stage.TheVariants as stage
use Rattle.mdr_due.specs.declared.status.Status.{Status}
use Rattle.mdr_due.specs.Reads.{Files, IsRead, UnreadBy, WasRead}
use Rattle.mdr_due.specs.Stages.{StageIs}
use Rattle.mdr_outside.specs.Calls.{ShelfCall}
use Rattle.mdr_outside.specs.declared.shelf.ReadAnswer.{ReadAnswer}
use Rattle.mdr_outside.specs.Sides.{FarSide}
use Rattle.mdr_source.specs.declared.outcome.Source.{Source}
use Rattle.mdr_top.specs.declared.split_manner.SplitManner.{SplitManner}
use Rattle.mdr_top.specs.SplitRuns.{SplitRunsOver, SplitRunsOverPart}
use Rattle.mdr_top.specs.Names.{TextNames}
use Rattle.mdr_top.specs.Reads.{AreRead}
use Rattle.mdr_top.specs.HalvesRuns.{HalvesRuns, HalvesPart}
use Rattle.mdr_top.specs.Sources.{HasHalves, NoHalves, IsSourceIn, NoSourceIn}

-- ---- reads over files that are the same as before

pub read_there : (files later : Files) (name : List ℕ) (limit : ℕ) (old new : List ShelfCall) (answer : ReadAnswer) → later ≡ files → IsRead later name limit old new answer → IsRead files name limit old new answer
read_there files later name limit old new answer same r = subst (λ (f : Files). IsRead f name limit old new answer) same r

pub unread_there : (files later : Files) (name : List ℕ) (limit : ℕ) (old new : List ShelfCall) (s : Status) (text : List ℕ) → later ≡ files → UnreadBy later name limit old new s text → UnreadBy files name limit old new s text
unread_there files later name limit old new s text same u = subst (λ (f : Files). UnreadBy f name limit old new s text) same u

pub was_there : (files later : Files) (name : List ℕ) (limit : ℕ) (old new : List ShelfCall) → later ≡ files → WasRead later name limit old new → WasRead files name limit old new
was_there files later name limit old new same w = subst (λ (f : Files). WasRead f name limit old new) same w

-- ---- the source of texts

pub source_stage : (files : Files) (names : TextNames) (old new : List ShelfCall) (texts : Texts) (st : Stage Source) → AreRead files names old new texts → StageIs (HasHalves texts) (NoHalves texts) st → StageIs (IsSourceIn files names old new) (NoSourceIn files names old new) st
source_stage files names old new texts (stage.Goes source) read has = record { texts = texts; read = read; has = has }
source_stage files names old new texts (stage.Ends due) read none = NoSourceIn.refused texts read none

-- ---- the whole command

module _ (files later : Files) (names : TextNames) (script_name : List ℕ) (manner : SplitManner) (old between new : List ShelfCall) (far far' : FarSide) (source : Source) (kept : later ≡ files) (read : IsSourceIn files names old between source) where
  pub runs_so : (s : Status) (text : List ℕ) → SplitRunsOver later source script_name manner between new far far' s text → HalvesRuns files names script_name manner old new far far' s text
  runs_so s text runs = HalvesRuns.sourced source between read (subst (λ (f : Files). SplitRunsOver f source script_name manner between new far far' s text) kept runs)

  pub runs_part : SplitRunsOverPart later source script_name manner.ticks between new far far' → HalvesPart files names script_name manner.ticks old new far far'
  runs_part part = HalvesPart.sourced_part source between read (subst (λ (f : Files). SplitRunsOverPart f source script_name manner.ticks between new far far') kept part)
