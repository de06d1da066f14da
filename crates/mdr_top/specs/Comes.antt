-- protocol
-- Where each status comes.
use Rattle.std.specs.Prelude.{◌≡◌, ℕ, ◌<◌, ◌≤◌, Bool, true, false, nat_lt, ◌⊎◌, List, length, Option, None, Some, IfSome, Result, Ok, Err}
use Rattle.mdr_core.specs.declared.plan.Plan.{Plan}
use Rattle.mdr_core.specs.declared.program.Program.{Program}
use Rattle.mdr_core.specs.Sound.{IsSound}
use Rattle.mdr_cut.specs.declared.texts.Texts.{Texts}
use Rattle.mdr_due.specs.declared.status.Status.{Status}
use Rattle.mdr_due.specs.declared.status.Status.TheVariants as status
use Rattle.mdr_due.specs.Reads.{Files, longest_source, longest_script}
use Rattle.mdr_gen.specs.Generator.{driver_text, lines_from}
use Rattle.mdr_top.specs.declared.recipe.Recipe.{Recipe}
use Rattle.mdr_top.specs.Generated.{budget}
use Rattle.mdr_outside.specs.declared.far.Exchange.{Exchange}
use Rattle.mdr_outside.specs.declared.far.Loaded.{Loaded}
use Rattle.mdr_outside.specs.declared.shelf.ReadAnswer.{ReadAnswer}
use Rattle.mdr_outside.specs.declared.shelf.ReadAnswer.TheVariants as reads
use Rattle.mdr_outside.specs.Shelf.{ReadsFrom}
use Rattle.mdr_top.specs.declared.manner.Manner.{Manner}
use Rattle.mdr_top.specs.WholeRuns.{EndsWith}
use Rattle.mdr_top.specs.Scripts.{HasScript, script_for}
use Rattle.mdr_bound.specs.declared.bound.Bound.{Bound}
use Rattle.mdr_script.specs.declared.script_error.ScriptKind.{ScriptKind}
use Rattle.mdr_slicer.specs.Slicing.{HasSource}
use Rattle.mdr_halves.specs.declared.mismatch.Mismatch.{Mismatch}
use Rattle.mdr_halves.specs.Joins.{AreTextsOf}
use Rattle.mdr_halves.specs.Whole.{Come}
use Rattle.mdr_top.specs.Names.{TextNames}
use Rattle.mdr_top.specs.Reads.{longest_text}
use Rattle.mdr_source.specs.declared.outcome.Source.{Source}
use Rattle.mdr_source.specs.declared.refusal.Refusal.{Refusal}
use Rattle.mdr_source.specs.Sources.{Comes as ComesTo}
use Rattle.mdr_top.specs.CutInto.{IsCutInto}
use Rattle.mdr_top.specs.declared.split_manner.SplitManner.{SplitManner}
use Rattle.mdr_top.specs.Ends.{EndsWith as SplitEndsWith}
use Rattle.mdr_top.specs.TranscriptLaws.{IsExactly}
use Rattle.mdr_top.specs.TranscriptRuns.{IsHonestRun}
use Rattle.mdr_top.specs.Verifies.{longest_transcript}
use Rattle.mdr_top.specs.Accepted.{AreAccepted, on_one_memory, over_two_halves}
use Rattle.mdr_top.specs.Answers.{HoldTexts, AreTaken}
use Rattle.mdr_top.specs.declared.words.Cutting.{Cutting}
use Rattle.mdr_top.specs.declared.words.Way.{Way}
use Rattle.mdr_top.specs.declared.words.Way.TheVariants as way
use Rattle.mdr_top.specs.Headline.{Rests, RestsHere}
use Rattle.mdr_top.specs.Outside.{Outside}
use Rattle.mdr_top.specs.Splits.{IsOfRun}
use Rattle.mdr_top.specs.Texts.{AreTextsAccepted}
use Rattle.mdr_top.specs.Words.{Inputs, OfFiles, Task, Cut, Run, Generate, Verify, command_of, RunTexts, texts_manner}

-- ---- what the words name

-- a source, and a script that is run over it in some way, or by whose run a transcript is judged
pub data AreNamed (words : List (List ℕ)) (source_name script_name : List ℕ) : Type 0 where
  run : (in_way : Way) → command_of words ≡ Some (Run (OfFiles source_name script_name) in_way) → AreNamed words source_name script_name
  verify : (transcript_name : List ℕ) → command_of words ≡ Some (Verify source_name script_name transcript_name) → AreNamed words source_name script_name

-- a transcript, and a source and a script that are there and are accepted
pub record IsRunFor (words : List (List ℕ)) (files : Files) (transcript_name : List ℕ) (source : Source) (script : Bound) : Type 0 where
  pub source_name : List ℕ
  pub script_name : List ℕ
  pub command : command_of words ≡ Some (Verify source_name script_name transcript_name)
  pub bytes : List ℕ
  pub source_read : ReadsFrom files source_name longest_source (reads.Ok bytes)
  pub has : HasSource bytes source
  pub lines : List ℕ
  pub script_read : ReadsFrom files script_name longest_script (reads.Ok lines)
  pub bound : HasScript source.program lines script

-- a text of three over whose halves a script is run: each once those before it are read
pub data IsText (words : List (List ℕ)) (files : Files) (name : List ℕ) : Type 0 where
  kernel : (names : TextNames) (script_name : List ℕ) → command_of words ≡ Some (RunTexts names script_name) → name ≡ names.kernel → IsText words files name
  user : (names : TextNames) (script_name bytes : List ℕ) → command_of words ≡ Some (RunTexts names script_name) → ReadsFrom files names.kernel longest_text (reads.Ok bytes) → name ≡ names.user → IsText words files name
  plan : (names : TextNames) (script_name bytes more : List ℕ) → command_of words ≡ Some (RunTexts names script_name) → ReadsFrom files names.kernel longest_text (reads.Ok bytes) → ReadsFrom files names.user longest_text (reads.Ok more) → name ≡ names.plan → IsText words files name

-- a file that the words name: a source or a text, the script once its source is accepted, and the transcript once both are
pub data IsWanted (words : List (List ℕ)) (files : Files) (name : List ℕ) (limit : ℕ) : Type 0 where
  as_cut : (how : Cutting) → command_of words ≡ Some (Cut how name) → limit ≡ longest_source → IsWanted words files name limit
  as_source : (script_name : List ℕ) → AreNamed words name script_name → limit ≡ longest_source → IsWanted words files name limit
  as_script : (source_name bytes : List ℕ) (source : Source) → AreNamed words source_name name → ReadsFrom files source_name longest_source (reads.Ok bytes) → HasSource bytes source → limit ≡ longest_script → IsWanted words files name limit
  as_transcript : (source : Source) (script : Bound) → IsRunFor words files name source script → limit ≡ longest_transcript → IsWanted words files name limit
  as_text : IsText words files name → limit ≡ longest_text → IsWanted words files name limit
  as_script_of_texts : (names : TextNames) (source : Source) → command_of words ≡ Some (RunTexts names name) → AreTaken files names source → limit ≡ longest_script → IsWanted words files name limit

-- a file that the words name is answered so
pub record IsAnswered (words : List (List ℕ)) (files : Files) (answer : ReadAnswer) : Type 0 where
  pub name : List ℕ
  pub limit : ℕ
  pub wanted : IsWanted words files name limit
  pub answers : ReadsFrom files name limit answer

-- ---- a source that is cut

-- its bytes
pub record IsCutSource (words : List (List ℕ)) (files : Files) (bytes : List ℕ) : Type 0 where
  pub how : Cutting
  pub name : List ℕ
  pub command : command_of words ≡ Some (Cut how name)
  pub read : ReadsFrom files name longest_source (reads.Ok bytes)

-- it is refused
pub record IsNoCut (words : List (List ℕ)) (files : Files) : Type 0 where
  pub bytes : List ℕ
  pub named : IsCutSource words files bytes
  pub refusal : Refusal
  pub refused : ComesTo bytes (Err refusal)

-- it is accepted
pub record WasCut (words : List (List ℕ)) (files : Files) : Type 0 where
  pub bytes : List ℕ
  pub named : IsCutSource words files bytes
  pub source : Source
  pub has : HasSource bytes source

-- ---- a source over which a script is run

-- its bytes
pub record IsRunSource (words : List (List ℕ)) (files : Files) (bytes : List ℕ) : Type 0 where
  pub name : List ℕ
  pub script_name : List ℕ
  pub named : AreNamed words name script_name
  pub read : ReadsFrom files name longest_source (reads.Ok bytes)

-- it is refused
pub record IsNoRun (words : List (List ℕ)) (files : Files) : Type 0 where
  pub bytes : List ℕ
  pub named : IsRunSource words files bytes
  pub refusal : Refusal
  pub refused : ComesTo bytes (Err refusal)

pub data IsRefused (words : List (List ℕ)) (files : Files) : Type 0 where
  no_cut : IsNoCut words files → IsRefused words files
  no_run : IsNoRun words files → IsRefused words files

-- a line of the script is none of a script's, or doesn't suit the program
pub record IsNoScript (words : List (List ℕ)) (files : Files) : Type 0 where
  pub bytes : List ℕ
  pub named : IsRunSource words files bytes
  pub source : Source
  pub has : HasSource bytes source
  pub lines : List ℕ
  pub read : ReadsFrom files named.script_name longest_script (reads.Ok lines)
  pub line : ℕ
  pub kind : ScriptKind
  pub refused : script_for source.program lines ≡ Err (line, kind)

-- so it is of the source of three texts
pub record IsNoTextsScript (words : List (List ℕ)) (files : Files) : Type 0 where
  pub names : TextNames
  pub script_name : List ℕ
  pub command : command_of words ≡ Some (RunTexts names script_name)
  pub source : Source
  pub taken : AreTaken files names source
  pub lines : List ℕ
  pub read : ReadsFrom files script_name longest_script (reads.Ok lines)
  pub line : ℕ
  pub kind : ScriptKind
  pub refused : script_for source.program lines ≡ Err (line, kind)

-- three texts are those of no source
pub record AreRefused (words : List (List ℕ)) (files : Files) : Type 0 where
  pub names : TextNames
  pub script_name : List ℕ
  pub command : command_of words ≡ Some (RunTexts names script_name)
  pub texts : Texts
  pub held : HoldTexts files names texts
  pub mismatch : Mismatch
  pub come : Come texts (Err mismatch)
  pub none : (source : Source) → AreTextsOf texts source → ⊥

-- the words name a source and a script that are run over its two halves, and that run ends with this status
pub record IsSplitEnd (words : List (List ℕ)) (files : Files) (loaded : Option Loaded) (es : List Exchange) (s : Status) : Type 0 where
  pub source : Source
  pub script : Bound
  pub manner : SplitManner
  pub accepted : AreAccepted words files (over_two_halves manner) source script
  pub sound : IsSound source.program
  pub plan : Plan
  pub texts : Texts
  pub cut : IsCutInto source plan texts
  pub ends : SplitEndsWith source.program plan texts script manner.ticks loaded es s

-- the words name three texts and a script that is run over their halves, and that run ends with this status
pub record IsTextsEnd (words : List (List ℕ)) (files : Files) (loaded : Option Loaded) (es : List Exchange) (s : Status) : Type 0 where
  pub source : Source
  pub script : Bound
  pub accepted : AreTextsAccepted words files source script
  pub plan : Plan
  pub cut : IsCutInto source plan accepted.taken.texts
  pub ends : SplitEndsWith source.program plan accepted.taken.texts script texts_manner.ticks loaded es s

-- the words name a source and a script that are run on one memory, and that run ends with this status
pub record IsWholeEnd (words : List (List ℕ)) (files : Files) (s : Status) : Type 0 where
  pub source : Source
  pub script : Bound
  pub manner : Manner
  pub accepted : AreAccepted words files (on_one_memory manner) source script
  pub sound : IsSound source.program
  pub ends : EndsWith source.program script manner s

-- ---- a transcript

-- the words name a transcript that is there; it is, or it isn't, what is printed of the one run over an honest far side that never fails
pub record WasJudged (words : List (List ℕ)) (files : Files) (s : Status) : Type 0 where
  pub name : List ℕ
  pub source : Source
  pub script : Bound
  pub run : IsRunFor words files name source script
  pub transcript : List ℕ
  pub read : ReadsFrom files name longest_transcript (reads.Ok transcript)
  pub exchanges : List Exchange
  pub report : List ℕ
  pub honest : IsHonestRun source script exchanges report
  pub exactly : IsExactly transcript exchanges report s

-- ---- a driver and a script that are made

-- the words name a seed, and the run of its driver and its script ends with this status
pub record IsMadeEnd (words : List (List ℕ)) (loaded : Option Loaded) (es : List Exchange) (s : Status) : Type 0 where
  pub recipe : Recipe
  pub command : command_of words ≡ Some (Generate recipe)
  pub source : Source
  pub script : Bound
  pub has : HasSource driver_text source
  pub bound : HasScript source.program (lines_from recipe.seed recipe.size) script
  pub plan : Plan
  pub texts : Texts
  pub cut : IsCutInto source plan texts
  pub ends : SplitEndsWith source.program plan texts script budget loaded es s

pub data IsScriptRefused (words : List (List ℕ)) (files : Files) : Type 0 where
  of_file : IsNoScript words files → IsScriptRefused words files
  of_texts : IsNoTextsScript words files → IsScriptRefused words files

-- ---- each status

-- a run over two halves ends with this status
pub data IsEnd (words : List (List ℕ)) (files : Files) (loaded : Option Loaded) (es : List Exchange) (s : Status) : Type 0 where
  split : IsSplitEnd words files loaded es s → IsEnd words files loaded es s
  made : IsMadeEnd words loaded es s → IsEnd words files loaded es s
  texts : IsTextsEnd words files loaded es s → IsEnd words files loaded es s

-- a run ended by itself, or a source was cut
pub data IsDone (words : List (List ℕ)) (files : Files) (loaded : Option Loaded) (es : List Exchange) : Type 0 where
  over_halves : IsEnd words files loaded es status.Done → IsDone words files loaded es
  whole : IsWholeEnd words files status.Done → IsDone words files loaded es
  cut : WasCut words files → IsDone words files loaded es
  verified : WasJudged words files status.Done → IsDone words files loaded es

-- the driver stopped
pub data IsStopped (words : List (List ℕ)) (files : Files) (loaded : Option Loaded) (es : List Exchange) : Type 0 where
  over_halves : IsEnd words files loaded es status.Stopped → IsStopped words files loaded es
  whole : IsWholeEnd words files status.Stopped → IsStopped words files loaded es

-- what holds where a status comes
abbrev pub Comes : List (List ℕ) → Files → Option Loaded → List Exchange → Status → Type 0
Comes words files loaded es status.Usage = command_of words ≡ None
Comes words files loaded es status.Missing = IsAnswered words files reads.Missing
Comes words files loaded es status.TooLarge = IsAnswered words files reads.TooLarge
Comes words files loaded es status.ReadFault = IsAnswered words files reads.Failed
Comes words files loaded es status.SourceRefused = IsRefused words files
Comes words files loaded es status.ScriptRefused = IsScriptRefused words files
Comes words files loaded es status.Done = IsDone words files loaded es
Comes words files loaded es status.Stopped = IsStopped words files loaded es
Comes words files loaded es status.Marshal = IsEnd words files loaded es status.Marshal
Comes words files loaded es status.FarFault = IsEnd words files loaded es status.FarFault
Comes words files loaded es status.WriteFault = Unit {0}
Comes words files loaded es status.OutOfMemory = Unit {0}
Comes words files loaded es status.HalvesRefused = AreRefused words files
Comes words files loaded es status.NotVerified = WasJudged words files status.NotVerified

-- ---- exactly where

-- a source's file gives none: it isn't there, it is too long, or its bytes are refused
pub data IsUntakenDue (file : Option (List ℕ)) (s : Status) : Type 0 where
  missing : file ≡ None → s ≡ status.Missing → IsUntakenDue file s
  long : (bytes : List ℕ) → file ≡ Some bytes → longest_source < length bytes → s ≡ status.TooLarge → IsUntakenDue file s
  refused : (bytes : List ℕ) (refusal : Refusal) → file ≡ Some bytes → length bytes ≤ longest_source → ComesTo bytes (Err refusal) → s ≡ status.SourceRefused → IsUntakenDue file s

-- it gives this source
pub record IsTakenDue (file : Option (List ℕ)) (source : Source) : Type 0 where
  pub bytes : List ℕ
  pub holds : file ≡ Some bytes
  pub fits : length bytes ≤ longest_source
  pub comes : ComesTo bytes (Ok source)

-- what the bytes of a source that is cut give
pub data IsCutDue (file : Option (List ℕ)) (s : Status) : Type 0 where
  untaken : IsUntakenDue file s → IsCutDue file s
  accepted : (source : Source) → IsTakenDue file source → s ≡ status.Done → IsCutDue file s

-- what the lines of a script give, where it is given what a script does that suits the program
abbrev pub IsBoundDue : (Ends : Bound → Type 0) → Result Bound (ℕ × ScriptKind) → Status → Type 0
IsBoundDue Ends (Ok script) s = Ends script
IsBoundDue Ends (Err e) s = s ≡ status.ScriptRefused

abbrev pub IsSizedDue : Bool → (Given : Type 0) → Status → Type 0
IsSizedDue true Given s = s ≡ status.TooLarge
IsSizedDue false Given s = Given

abbrev pub IsScriptDue : Program → (Ends : Bound → Type 0) → Option (List ℕ) → Status → Type 0
IsScriptDue program Ends None s = s ≡ status.Missing
IsScriptDue program Ends (Some lines) s = IsSizedDue (nat_lt longest_script (length lines)) (IsBoundDue Ends (script_for program lines) s) s

-- what a source and the bytes of a script give that is run over it. Given is what is due where there is no source, what is known of one that there is, and what a run does
pub data IsRunDue (No : Status → Type 0) (Has : Source → Type 0) (Ends : Program → Bound → Type 0) (script : Option (List ℕ)) (s : Status) : Type 0 where
  no_source : No s → IsRunDue No Has Ends script s
  accepted : (source : Source) → Has source → IsScriptDue source.program (Ends source.program) script s → IsRunDue No Has Ends script s

-- the source is a file's
abbrev pub IsFileDue : (Ends : Program → Bound → Type 0) → (file script : Option (List ℕ)) → Status → Type 0
IsFileDue Ends file script s = IsRunDue (IsUntakenDue file) (IsTakenDue file) Ends script s

-- a file gives no text: it isn't there, or it is too long
pub data IsNoTextDue (file : Option (List ℕ)) (s : Status) : Type 0 where
  missing : file ≡ None → s ≡ status.Missing → IsNoTextDue file s
  long : (bytes : List ℕ) → file ≡ Some bytes → longest_text < length bytes → s ≡ status.TooLarge → IsNoTextDue file s

-- it gives this text
pub record IsTextDue (file : Option (List ℕ)) (text : List ℕ) : Type 0 where
  pub holds : file ≡ Some text
  pub fits : length text ≤ longest_text

-- the files of three texts give them
pub record AreTextsDue (f : List ℕ → Option (List ℕ)) (names : TextNames) (texts : Texts) : Type 0 where
  pub kernel : IsTextDue (f names.kernel) texts.kernel
  pub user : IsTextDue (f names.user) texts.user
  pub plan : IsTextDue (f names.plan) texts.plan

-- they give none, the first that doesn't, or the texts are refused
pub data AreUntakenDue (f : List ℕ → Option (List ℕ)) (names : TextNames) (s : Status) : Type 0 where
  no_kernel : IsNoTextDue (f names.kernel) s → AreUntakenDue f names s
  no_user : (kernel : List ℕ) → IsTextDue (f names.kernel) kernel → IsNoTextDue (f names.user) s → AreUntakenDue f names s
  no_plan : (kernel user : List ℕ) → IsTextDue (f names.kernel) kernel → IsTextDue (f names.user) user → IsNoTextDue (f names.plan) s → AreUntakenDue f names s
  refused : (texts : Texts) → AreTextsDue f names texts → ((source : Source) → AreTextsOf texts source → ⊥) → s ≡ status.HalvesRefused → AreUntakenDue f names s

-- they give those of this source
pub record AreTakenDue (f : List ℕ → Option (List ℕ)) (names : TextNames) (source : Source) : Type 0 where
  pub texts : Texts
  pub due : AreTextsDue f names texts
  pub are : AreTextsOf texts source

-- three texts and a script
abbrev pub IsTextsDue : TextNames → (script_name : List ℕ) → (List ℕ → Option (List ℕ)) → Status → Type 0
IsTextsDue names script_name f s = IsRunDue (AreUntakenDue f names) (AreTakenDue f names) (λ program bound. IsOfRun s) (f script_name) s

-- on one memory it ends as it does in its manner
abbrev pub IsWholeDue : Manner → (file script : Option (List ℕ)) → Status → Type 0
IsWholeDue manner file script s = IsFileDue (λ program bound. EndsWith program bound manner s) file script s

-- how a run ends, by its way: over the two halves with one of its statuses
abbrev pub WayEnds : Way → Status → Program → Bound → Type 0
WayEnds (way.Whole manner) s = λ program bound. EndsWith program bound manner s
WayEnds (way.Split manner) s = λ program bound. IsOfRun s

-- what is due of a run, by what it is of
abbrev pub IsDueOf : Inputs → (List ℕ → Option (List ℕ)) → (Ends : Program → Bound → Type 0) → Status → Type 0
IsDueOf (OfFiles source_name script_name) f Ends s = IsFileDue Ends (f source_name) (f script_name) s

-- what the driver and the script of a seed give, which are a source and a script: how a run ends
pub record IsMadeDue (recipe : Recipe) (s : Status) : Type 0 where
  pub source : Source
  pub script : Bound
  pub comes : ComesTo driver_text (Ok source)
  pub bound : HasScript source.program (lines_from recipe.seed recipe.size) script
  pub ends : IsOfRun s

-- what a transcript's file gives, where a script is run over a source: it is what is printed of the one run over an honest far side that never fails, or it isn't
pub data IsTranscriptDue (source : Source) (script : Bound) (transcript : Option (List ℕ)) (s : Status) : Type 0 where
  missing : transcript ≡ None → s ≡ status.Missing → IsTranscriptDue source script transcript s
  long : (bytes : List ℕ) → transcript ≡ Some bytes → longest_transcript < length bytes → s ≡ status.TooLarge → IsTranscriptDue source script transcript s
  judged : (bytes : List ℕ) (es : List Exchange) (report : List ℕ) → transcript ≡ Some bytes → length bytes ≤ longest_transcript → IsHonestRun source script es report → IsExactly bytes es report s → IsTranscriptDue source script transcript s

-- what a source, a script and a transcript give
pub data IsVerifyDue (file script transcript : Option (List ℕ)) (s : Status) : Type 0 where
  no_source : IsUntakenDue file s → IsVerifyDue file script transcript s
  no_script : (source : Source) → IsTakenDue file source → IsScriptDue source.program (λ bound. ⊥) script s → IsVerifyDue file script transcript s
  accepted : (source : Source) (lines : List ℕ) (bound : Bound) → IsTakenDue file source → script ≡ Some lines → length lines ≤ longest_script → HasScript source.program lines bound → IsTranscriptDue source bound transcript s → IsVerifyDue file script transcript s

-- what words and files give where nothing fails
abbrev pub IsDueFor : Option Task → (List ℕ → Option (List ℕ)) → Status → Type 0
IsDueFor None f s = s ≡ status.Usage
IsDueFor (Some (Cut how name)) f s = IsCutDue (f name) s
IsDueFor (Some (Run inputs in_way)) f s = IsDueOf inputs f (WayEnds in_way s) s
IsDueFor (Some (Generate recipe)) f s = IsMadeDue recipe s
IsDueFor (Some (Verify source_name script_name transcript_name)) f s = IsVerifyDue (f source_name) (f script_name) (f transcript_name) s
IsDueFor (Some (RunTexts names script_name)) f s = IsTextsDue names script_name f s

-- the status is what words and files give, but a read or a write may fail, and memory may be wanting
abbrev pub IsDueOrFault : (Due : Type 0) → Status → Type 0
IsDueOrFault Due s = (s ≡ status.ReadFault) ⊎ ((s ≡ status.WriteFault) ⊎ ((s ≡ status.OutOfMemory) ⊎ Due))

-- where the files are told
abbrev pub IsExact : List (List ℕ) → Files → Status → Type 0
IsExact words files s = IfSome files (λ f. IsDueOrFault (IsDueFor (command_of words) f s) s)

-- where a seed is asked for, whatever the files are, its driver and its script are a source and a script and the status is one of a run over two halves, but a write may fail, and memory may be wanting
abbrev pub MadeExactly : List (List ℕ) → Status → Type 0
MadeExactly words s = (recipe : Recipe) → command_of words ≡ Some (Generate recipe) → (s ≡ status.WriteFault) ⊎ ((s ≡ status.OutOfMemory) ⊎ IsMadeDue recipe s)

-- where a source is cut, over files that are told, the status is what its bytes give, or memory was wanting, where no read fails and no write
abbrev pub CutCompletes : List (List ℕ) → (before after : Outside) → Status → Type 0
CutCompletes words before after s =
    RestsHere before after → Rests before.sides.shelf.unwritten after.sides.shelf.unwritten → (how : Cutting) (name : List ℕ) → command_of words ≡ Some (Cut how name)
    → IfSome before.sides.shelf.files (λ f. (s ≡ status.OutOfMemory) ⊎ IsCutDue (f name) s)

-- where a script is run on one memory, over files that are told, the status is what the two files give, or memory was wanting, where no read fails and no write of the output
abbrev pub WholeCompletes : List (List ℕ) → (before after : Outside) → Status → Type 0
WholeCompletes words before after s =
    RestsHere before after → (source_name script_name : List ℕ) (manner : Manner) → command_of words ≡ Some (Run (OfFiles source_name script_name) (way.Whole manner))
    → IfSome before.sides.shelf.files (λ f. (s ≡ status.OutOfMemory) ⊎ IsWholeDue manner (f source_name) (f script_name) s)
