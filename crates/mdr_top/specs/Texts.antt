-- protocol
-- What is printed of a run from texts: over an honest far side, and what it has in common with the run over a source that was cut into them.
use Rattle.std.specs.Prelude.{◌≡◌, ℕ, ◌⊎◌, List, [], ◌∷◌, codes, Some}
use Rattle.mdr_core.specs.declared.plan.Plan.{Plan}
use Rattle.mdr_bound.specs.declared.bound.Bound.{Bound}
use Rattle.mdr_cut.specs.declared.texts.Texts.{Texts}
use Rattle.mdr_cut.specs.Cuts.{AreTexts}
use Rattle.mdr_due.specs.declared.status.Status.{Status}
use Rattle.mdr_due.specs.declared.status.Status.TheVariants as status
use Rattle.mdr_due.specs.Reads.{Files, longest_script, longest_source}
use Rattle.mdr_top.specs.Names.{TextNames}
use Rattle.mdr_top.specs.Reads.{longest_text}
use Rattle.mdr_honest.specs.Honest.{IsHonest}
use Rattle.mdr_outside.specs.Calls.{ShelfCall, Read, and_then}
use Rattle.mdr_outside.specs.declared.far.LoadAnswer.TheVariants as loads
use Rattle.mdr_outside.specs.declared.shelf.ReadAnswer.TheVariants as reads
use Rattle.mdr_outside.specs.Far.{loaded_with}
use Rattle.mdr_outside.specs.Shelf.{ReadsFrom}
use Rattle.mdr_top.specs.WholeRuns.{IsRun}
use Rattle.mdr_top.specs.Scripts.{HasScript}
use Rattle.mdr_slicer.specs.Slicing.{HasSource}
use Rattle.mdr_source.specs.declared.outcome.Source.{Source}
use Rattle.mdr_top.specs.CutInto.{IsCutInto}
use Rattle.mdr_top.specs.Means.{IsMeaning, while_watched}
use Rattle.mdr_top.specs.Answers.{HoldTexts, AreTaken, Prints}
use Rattle.mdr_top.specs.Headline.{AreTold}
use Rattle.mdr_top.specs.Outside.{Outside}
use Rattle.mdr_top.specs.Words.{RunTexts, command_of, texts_manner}
use Rattle.mdr_top.specs.Writing.{IsWritten}

-- the words come to three texts and a script; all are read, and are those of a source and a script for its program
pub record AreTextsAccepted (words : List (List ℕ)) (files : Files) (source : Source) (script : Bound) : Type 0 where
  pub names : TextNames
  pub script_name : List ℕ
  pub command : command_of words ≡ Some (RunTexts names script_name)
  pub taken : AreTaken files names source
  pub lines : List ℕ
  pub script_read : ReadsFrom files script_name longest_script (reads.Ok lines)
  pub bound : HasScript source.program lines script

-- ---- over an honest far side

-- three texts were read, one after the other
abbrev pub texts_read : TextNames → Texts → List ShelfCall → List ShelfCall
texts_read names texts calls =
    and_then (and_then (and_then calls (Read names.kernel longest_text (reads.Ok texts.kernel))) (Read names.user longest_text (reads.Ok texts.user))) (Read names.plan longest_text (reads.Ok texts.plan))

-- the words are accepted for what these very reads gave, the far side holds two of the texts, and what was written is the report of what they mean, which is that of the same run on one memory
pub record TextsMeanBy (words : List (List ℕ)) (before after : Outside) (s : Status) : Type 0 where
  pub source : Source
  pub script : Bound
  pub accepted : AreTextsAccepted words before.sides.shelf.files source script
  pub read : after.sides.shelf.calls ≡ and_then (texts_read accepted.names accepted.taken.texts before.sides.shelf.calls) (Read accepted.script_name longest_script (reads.Ok accepted.lines))
  pub plan : Plan
  pub cut : IsCutInto source plan accepted.taken.texts
  pub held : after.sides.far.loaded ≡ Some (loaded_with accepted.taken.texts.user accepted.taken.texts.plan loads.Ok)
  pub text : List ℕ
  pub printed : IsWritten before.out after.out text
  pub meaning : IsMeaning source.program plan script texts_manner.ticks after.sides.far.exchanges s text
  pub same : IsRun source.program script (while_watched texts_manner.ticks) s text

-- a run from texts that ends by itself, or stops, is what their source and its script mean
abbrev pub TextsMean : List (List ℕ) → (before after : Outside) → Status → Type 0
TextsMean words before after s =
    IsHonest after.sides.far.loaded after.sides.far.exchanges → (names : TextNames) (script_name : List ℕ) → command_of words ≡ Some (RunTexts names script_name) → (s ≡ status.Done) ⊎ (s ≡ status.Stopped) → TextsMeanBy words before after s

-- ---- over any far side

-- a file holds a source, and three others the texts that it is cut into
pub record AreSplitFrom (files : Files) (source_name : List ℕ) (names : TextNames) : Type 0 where
  pub bytes : List ℕ
  pub read : ReadsFrom files source_name longest_source (reads.Ok bytes)
  pub source : Source
  pub has : HasSource bytes source
  pub texts : Texts
  pub are : AreTexts source.tree source.program texts
  pub held : HoldTexts files names texts

-- `run split FILE SCRIPT`
abbrev pub split_words : (source_name script_name : List ℕ) → List (List ℕ)
split_words source_name script_name = codes "run" ∷ codes "split" ∷ source_name ∷ script_name ∷ []

-- over the texts that a source is cut into what is printed is what is printed of the run over that source, where the far side answers the same; but that a read may fail, or a write
abbrev pub PrintsAsSplit : List (List ℕ) → (before after : Outside) → Status → Type 0
PrintsAsSplit words before after s =
    AreTold before.sides.shelf.files → (names : TextNames) (source_name script_name : List ℕ) → command_of words ≡ Some (RunTexts names script_name) → AreSplitFrom before.sides.shelf.files source_name names
    → (s ≡ status.ReadFault) ⊎ ((s ≡ status.WriteFault) ⊎ Prints (split_words source_name script_name) before after s)
