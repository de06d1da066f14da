-- protocol
-- What the program does to the outside, and what is due for it: one constructor for each thing that the words ask for.
use Rattle.std.specs.Prelude.{◌≡◌, ℕ, List, Some, None}
use Rattle.mdr_due.specs.declared.due.Due.{Due}
use Rattle.mdr_due.specs.declared.status.Status.{Status}
use Rattle.mdr_due.specs.declared.status.Status.TheVariants as status
use Rattle.mdr_top.specs.declared.recipe.Recipe.{Recipe}
use Rattle.mdr_top.specs.Generates.{IsGenerated, IsGeneratedPart}
use Rattle.mdr_top.specs.Names.{TextNames}
use Rattle.mdr_top.specs.HalvesRuns.{HalvesRuns, HalvesPart}
use Rattle.mdr_top.specs.declared.manner.Manner.{Manner}
use Rattle.mdr_top.specs.WholeRuns.{Runs, RunsPart}
use Rattle.mdr_top.specs.declared.split_manner.SplitManner.{SplitManner}
use Rattle.mdr_top.specs.SplitRuns.{SplitRuns, SplitRunsPart}
use Rattle.mdr_top.specs.Verifies.{Verifies, VerifiesPart}
use Rattle.mdr_top.specs.Cuts.{CutDone, CutPart}
use Rattle.mdr_top.specs.declared.words.Cutting.{Cutting}
use Rattle.mdr_top.specs.declared.words.Way.{Way}
use Rattle.mdr_top.specs.declared.words.Way.TheVariants as way
use Rattle.mdr_top.specs.Lines.{usage_line}
use Rattle.mdr_top.specs.Sides.{Sides, Change}
use Rattle.mdr_top.specs.Outside.{Outside}
use Rattle.mdr_top.specs.Words.{Inputs, OfFiles, Cut, Run, Generate, Verify, command_of, RunTexts, texts_manner}
use Rattle.mdr_top.specs.Writing.{IsWritten, IsCutOff}

-- ---- a run

-- a script that is run on one memory leaves the far side alone
pub record WholeDone (source_name script_name : List ℕ) (manner : Manner) (before after : Sides) (s : Status) (text : List ℕ) : Type 0 where
  pub runs : Runs before.shelf.files source_name script_name manner before.shelf.calls after.shelf.calls s text
  pub far_same : after.far ≡ before.far

pub record WholePart (source_name script_name : List ℕ) (before after : Sides) : Type 0 where
  pub runs : RunsPart before.shelf.files source_name script_name before.shelf.calls after.shelf.calls
  pub far_same : after.far ≡ before.far

-- over two halves the far side is loaded once and gets the run's messages
abbrev pub SplitDone : (source_name script_name : List ℕ) → SplitManner → (before after : Sides) → Status → List ℕ → Type 0
SplitDone source_name script_name manner before after s text = SplitRuns before.shelf.files source_name script_name manner before.shelf.calls after.shelf.calls before.far after.far s text

abbrev pub SplitPart : (source_name script_name : List ℕ) → SplitManner → (before after : Sides) → Type 0
SplitPart source_name script_name manner before after = SplitRunsPart before.shelf.files source_name script_name manner.ticks before.shelf.calls after.shelf.calls before.far after.far

-- a source and a script, in the way that is asked for
abbrev pub RunDone : Inputs → Way → (before after : Sides) → Status → List ℕ → Type 0
RunDone (OfFiles source_name script_name) (way.Whole manner) before after s text = WholeDone source_name script_name manner before after s text
RunDone (OfFiles source_name script_name) (way.Split manner) before after s text = SplitDone source_name script_name manner before after s text

-- as much of it was done as memory was there for
abbrev pub RunPart : Inputs → Way → (before after : Sides) → Type 0
RunPart (OfFiles source_name script_name) (way.Whole manner) before after = WholePart source_name script_name before after
RunPart (OfFiles source_name script_name) (way.Split manner) before after = SplitPart source_name script_name manner before after

-- ---- a seed

-- a driver and a script that are made leave the shelf alone; the far side is loaded once, and gets the run's messages
pub record MadeDone (recipe : Recipe) (before after : Sides) (s : Status) (text : List ℕ) : Type 0 where
  pub generates : IsGenerated recipe before.far after.far s text
  pub shelf_same : after.shelf ≡ before.shelf

pub record MadePart (recipe : Recipe) (before after : Sides) : Type 0 where
  pub generates : IsGeneratedPart recipe before.far after.far
  pub shelf_same : after.shelf ≡ before.shelf

-- ---- a run from texts

-- the far side is loaded once and gets the run's messages, where there is a source
abbrev pub TextsDone : TextNames → (script_name : List ℕ) → (before after : Sides) → Status → List ℕ → Type 0
TextsDone names script_name before after s text = HalvesRuns before.shelf.files names script_name texts_manner before.shelf.calls after.shelf.calls before.far after.far s text

abbrev pub TextsPart : TextNames → (script_name : List ℕ) → (before after : Sides) → Type 0
TextsPart names script_name before after = HalvesPart before.shelf.files names script_name texts_manner.ticks before.shelf.calls after.shelf.calls before.far after.far

-- ---- all words

module _ (words : List (List ℕ)) (before after : Sides) where
  -- a source is cut, which leaves the far side alone; or a script is run over it, which changes no file; or both are made from a seed and run; or a transcript is judged, over a far side of the program's own
  pub data Done (s : Status) (text : List ℕ) : Type 0 where
    usage : command_of words ≡ None → after ≡ before → s ≡ status.Usage → text ≡ usage_line → Done s text
    cut : (how : Cutting) (name : List ℕ) → command_of words ≡ Some (Cut how name) → CutDone how before.shelf.files after.shelf.files name before.shelf.calls after.shelf.calls s text → after.far ≡ before.far → Done s text
    ran : (inputs : Inputs) (in_way : Way) → command_of words ≡ Some (Run inputs in_way) → after.shelf.files ≡ before.shelf.files → RunDone inputs in_way before after s text → Done s text
    made : (recipe : Recipe) → command_of words ≡ Some (Generate recipe) → MadeDone recipe before after s text → Done s text
    verified : (source_name script_name transcript_name : List ℕ) → command_of words ≡ Some (Verify source_name script_name transcript_name) → after.far ≡ before.far → after.shelf.files ≡ before.shelf.files
        → Verifies before.shelf.files source_name script_name transcript_name before.shelf.calls after.shelf.calls s text → Done s text
    texts : (names : TextNames) (script_name : List ℕ) → command_of words ≡ Some (RunTexts names script_name) → after.shelf.files ≡ before.shelf.files → TextsDone names script_name before after s text → Done s text

  -- as much of it was done as memory was there for
  pub data DonePart : Type 0 where
    nothing : after ≡ before → DonePart
    cut_part : (how : Cutting) (name : List ℕ) → command_of words ≡ Some (Cut how name) → CutPart how before.shelf.files after.shelf.files name before.shelf.calls after.shelf.calls → after.far ≡ before.far → DonePart
    ran_part : (inputs : Inputs) (in_way : Way) → command_of words ≡ Some (Run inputs in_way) → after.shelf.files ≡ before.shelf.files → RunPart inputs in_way before after → DonePart
    made_part : (recipe : Recipe) → command_of words ≡ Some (Generate recipe) → MadePart recipe before after → DonePart
    verified_part : (source_name script_name transcript_name : List ℕ) → command_of words ≡ Some (Verify source_name script_name transcript_name) → after.far ≡ before.far → after.shelf.files ≡ before.shelf.files
        → VerifiesPart before.shelf.files source_name script_name transcript_name before.shelf.calls after.shelf.calls → DonePart
    texts_part : (names : TextNames) (script_name : List ℕ) → command_of words ≡ Some (RunTexts names script_name) → after.shelf.files ≡ before.shelf.files → TextsPart names script_name before after → DonePart

-- all of it was done and the whole text written; or a part of the text, where a call of the output failed; or memory was wanting, and the output is as it was
pub data Does (words : List (List ℕ)) (before after : Outside) (s : Status) : Type 0 where
  whole : (text : List ℕ) → Done words before.sides after.sides s text → IsWritten before.out after.out text → Does words before after s
  cut : (due : Status) (text : List ℕ) → s ≡ status.WriteFault → Done words before.sides after.sides due text → IsCutOff before.out after.out text → Does words before after s
  nothing : s ≡ status.OutOfMemory → DonePart words before.sides after.sides → after.out ≡ before.out → Does words before after s

-- ---- the same of what functions give

abbrev pub DoneBy : (words : List (List ℕ)) → Change → Due → Type 0
DoneBy words c due = Done words c.before c.after due.status due.text.items

abbrev pub PartBy : (words : List (List ℕ)) → Change → Type 0
PartBy words c = DonePart words c.before c.after

abbrev pub RunDoneBy : Inputs → Way → Change → Due → Type 0
RunDoneBy inputs in_way c due = RunDone inputs in_way c.before c.after due.status due.text.items

abbrev pub RunPartBy : Inputs → Way → Change → Type 0
RunPartBy inputs in_way c = RunPart inputs in_way c.before c.after

abbrev pub MadeDoneBy : Recipe → Change → Due → Type 0
MadeDoneBy recipe c due = MadeDone recipe c.before c.after due.status due.text.items

abbrev pub MadePartBy : Recipe → Change → Type 0
MadePartBy recipe c = MadePart recipe c.before c.after
