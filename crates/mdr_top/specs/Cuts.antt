-- protocol
-- What the program does with a source that is cut.
use Rattle.std.specs.Prelude.{◌≡◌, ℕ, ◌⊎◌, List, codes, Option, Some, None, slice_get}
use Rattle.mdr_outside.specs.Calls.{ShelfCall}
use Rattle.mdr_outside.specs.Count.{Rose}
use Rattle.mdr_cut.specs.declared.texts.Texts.{Texts}
use Rattle.mdr_cut.specs.Cuts.{AreTexts}
use Rattle.mdr_due.specs.declared.status.Status.{Status}
use Rattle.mdr_due.specs.declared.status.Status.TheVariants as status
use Rattle.mdr_due.specs.Lines.{file_line}
use Rattle.mdr_due.specs.Reads.{Files, WasRead, longest_source}
use Rattle.mdr_source.specs.declared.outcome.Source.{Source}
use Rattle.mdr_slicer.specs.Outputs.{NamedBytes, outputs, length_lines}
use Rattle.mdr_slicer.specs.Slicing.{Splits, SplitsPart, Reports, IsReported}
use Rattle.mdr_top.specs.declared.words.Cutting.{Cutting}
use Rattle.mdr_top.specs.declared.words.Cutting.TheVariants as cutting
use Rattle.mdr_top.specs.Outside.{Outside}
use Rattle.mdr_top.specs.Words.{Task, Cut, Run, Generate, Verify, command_of, RunTexts}

-- ---- what is done

-- its texts are written, or it is reported on and no file changes
abbrev pub CutDone : Cutting → (files files' : Files) → (name : List ℕ) → (old new : List ShelfCall) → Status → List ℕ → Type 0
CutDone cutting.Split files files' name old new s text = Splits files files' name old new s text
CutDone cutting.Report files files' name old new s text = (files' ≡ files) × Reports files name old new s text

-- as much of it was done as memory was there for
abbrev pub CutPart : Cutting → (files files' : Files) → (name : List ℕ) → (old new : List ShelfCall) → Type 0
CutPart cutting.Split files files' name old new = SplitsPart files files' name old new
CutPart cutting.Report files files' name old new = (files' ≡ files) × WasRead files name longest_source old new

-- ---- what is due

-- the lengths of its texts, or that one of them couldn't be written
pub data IsSplit (name : List ℕ) (source : Source) (s : Status) (text : List ℕ) : Type 0 where
  whole : (texts : Texts) → AreTexts source.tree source.program texts → s ≡ status.Done → text ≡ length_lines (outputs name texts) → IsSplit name source s text
  failed : (texts : Texts) (i : ℕ) (file : NamedBytes) → AreTexts source.tree source.program texts → slice_get (outputs name texts) i ≡ Some file → s ≡ status.WriteFault → text ≡ file_line (codes "write fault ") file.0 → IsSplit name source s text

abbrev pub IsCut : Cutting → (name : List ℕ) → Source → Status → List ℕ → Type 0
IsCut cutting.Split name source s text = IsSplit name source s text
IsCut cutting.Report name source s text = IsReported source.program s text

-- a status that it ends with
abbrev pub IsOfCut : Status → Type 0
IsOfCut status.Done = Unit {0}
IsOfCut status.Usage = ⊥
IsOfCut status.SourceRefused = Unit {0}
IsOfCut status.ScriptRefused = ⊥
IsOfCut status.ReadFault = Unit {0}
IsOfCut status.WriteFault = Unit {0}
IsOfCut status.FarFault = ⊥
IsOfCut status.Marshal = ⊥
IsOfCut status.Stopped = ⊥
IsOfCut status.OutOfMemory = ⊥
IsOfCut status.Missing = Unit {0}
IsOfCut status.TooLarge = Unit {0}
IsOfCut status.HalvesRefused = ⊥
IsOfCut status.NotVerified = ⊥

-- ---- why a write fault comes

-- only texts are written to files: the shelf's count of failed writes rose
abbrev pub CutCause : Cutting → (before after : ℕ) → Type 0
CutCause cutting.Split before after = Rose before after
CutCause cutting.Report before after = ⊥

abbrev pub WroteCause : Option Task → (before after : ℕ) → Type 0
WroteCause None before after = ⊥
WroteCause (Some (Cut how name)) before after = CutCause how before after
WroteCause (Some (Run inputs in_way)) before after = ⊥
WroteCause (Some (Generate recipe)) before after = ⊥
WroteCause (Some (Verify source_name script_name transcript_name)) before after = ⊥
WroteCause (Some (RunTexts names script_name)) before after = ⊥

-- a write fault comes only where the output's count of faults rose, or where texts are written the shelf's of failed writes
abbrev pub WriteCause : (words : List (List ℕ)) → (before after : Outside) → Status → Type 0
WriteCause words before after s = s ≡ status.WriteFault → Rose before.out.faults after.out.faults ⊎ WroteCause (command_of words) before.sides.shelf.unwritten after.sides.shelf.unwritten
