-- protocol
-- What the program answers, with one constructor for each reason.
use Rattle.std.specs.Prelude.{◌≡◌, ℕ, List, codes, Option, Some, None}
use Rattle.mdr_core.specs.declared.plan.Plan.{Plan}
use Rattle.mdr_cut.specs.declared.texts.Texts.{Texts}
use Rattle.mdr_due.specs.declared.status.Status.{Status}
use Rattle.mdr_due.specs.declared.status.Status.TheVariants as status
use Rattle.mdr_due.specs.Lines.{file_line}
use Rattle.mdr_due.specs.Reads.{Files, longest_source, longest_script}
use Rattle.mdr_gen.specs.Generator.{driver_text, lines_from}
use Rattle.mdr_top.specs.declared.recipe.Recipe.{Recipe}
use Rattle.mdr_top.specs.Generated.{budget, IsTold}
use Rattle.mdr_top.specs.Names.{TextNames}
use Rattle.mdr_top.specs.Reads.{longest_text}
use Rattle.mdr_top.specs.Sources.{HasHalves, NoHalves}
use Rattle.mdr_outside.specs.declared.far.Exchange.{Exchange}
use Rattle.mdr_outside.specs.declared.far.Loaded.{Loaded}
use Rattle.mdr_outside.specs.declared.shelf.ReadAnswer.TheVariants as reads
use Rattle.mdr_outside.specs.Shelf.{ReadsFrom}
use Rattle.mdr_plain.specs.declared.outcome.Outcome.{Outcome}
use Rattle.mdr_top.specs.declared.manner.Manner.{Manner}
use Rattle.mdr_top.specs.WholeRuns.{IsRun}
use Rattle.mdr_top.specs.Scripts.{HasScript, NoScript}
use Rattle.mdr_bound.specs.declared.bound.Bound.{Bound}
use Rattle.mdr_slicer.specs.Slicing.{HasSource, NoSource}
use Rattle.mdr_source.specs.declared.outcome.Source.{Source}
use Rattle.mdr_top.specs.CutInto.{IsCutInto}
use Rattle.mdr_top.specs.declared.split_manner.SplitManner.{SplitManner}
use Rattle.mdr_top.specs.Layouts.{with_lines}
use Rattle.mdr_top.specs.Reports.{Ran, RanTo, world_left}
use Rattle.mdr_top.specs.Judged.{IsJudged}
use Rattle.mdr_top.specs.Verifies.{longest_transcript}
use Rattle.mdr_top.specs.declared.words.Cutting.{Cutting}
use Rattle.mdr_top.specs.declared.words.Way.{Way}
use Rattle.mdr_top.specs.declared.words.Way.TheVariants as way
use Rattle.mdr_top.specs.Cuts.{IsCut}
use Rattle.mdr_top.specs.Lines.{usage_line}
use Rattle.mdr_top.specs.Outside.{Outside}
use Rattle.mdr_top.specs.Writing.{IsWritten, IsCutOff}
use Rattle.mdr_top.specs.Words.{Inputs, OfFiles, Cut, Run, Generate, Verify, command_of, RunTexts, texts_manner}

-- a file that isn't there to be read
pub data Unread (files : Files) (name : List ℕ) (limit : ℕ) (s : Status) (text : List ℕ) : Type 0 where
  missing : ReadsFrom files name limit reads.Missing → s ≡ status.Missing → text ≡ file_line (codes "missing ") name → Unread files name limit s text
  long : ReadsFrom files name limit reads.TooLarge → s ≡ status.TooLarge → text ≡ file_line (codes "too large ") name → Unread files name limit s text
  failed : s ≡ status.ReadFault → text ≡ file_line (codes "read fault ") name → Unread files name limit s text

-- ---- a source

-- a source that isn't taken: its file isn't read, or its bytes are refused
pub data Untaken (files : Files) (name : List ℕ) (s : Status) (text : List ℕ) : Type 0 where
  unread : Unread files name longest_source s text → Untaken files name s text
  refused : (bytes : List ℕ) → ReadsFrom files name longest_source (reads.Ok bytes) → NoSource bytes s text → Untaken files name s text

-- a source that is taken
pub record IsTaken (files : Files) (name : List ℕ) (source : Source) : Type 0 where
  pub bytes : List ℕ
  pub read : ReadsFrom files name longest_source (reads.Ok bytes)
  pub has : HasSource bytes source

-- a source that is cut
pub data CutAnswered (how : Cutting) (files : Files) (name : List ℕ) (s : Status) (text : List ℕ) : Type 0 where
  untaken : Untaken files name s text → CutAnswered how files name s text
  accepted : (source : Source) → IsTaken files name source → IsCut how name source s text → CutAnswered how files name s text

-- ---- a source and a script

-- a script that is run over a source: the source is judged before the script is read. Given is what is due where there is no source, what is known of one that there is, and what is due of both
pub data ScriptAnswered (files : Files) (No : Status → List ℕ → Type 0) (Has : Source → Type 0) (script_name : List ℕ) (Due : Source → Bound → Type 0) (s : Status) (text : List ℕ) : Type 0 where
  no_source : No s text → ScriptAnswered files No Has script_name Due s text
  script_unread : (source : Source) → Has source → Unread files script_name longest_script s text → ScriptAnswered files No Has script_name Due s text
  script_refused : (source : Source) (lines : List ℕ) → Has source → ReadsFrom files script_name longest_script (reads.Ok lines) → NoScript source.program lines s text → ScriptAnswered files No Has script_name Due s text
  ran : (source : Source) (lines : List ℕ) (script : Bound) → Has source → ReadsFrom files script_name longest_script (reads.Ok lines) → HasScript source.program lines script → Due source script → ScriptAnswered files No Has script_name Due s text

-- the source is a file's
abbrev pub FileAnswered : (files : Files) (source_name script_name : List ℕ) (Due : Source → Bound → Type 0) → Status → List ℕ → Type 0
FileAnswered files source_name script_name Due s text = ScriptAnswered files (Untaken files source_name) (IsTaken files source_name) script_name Due s text

-- on one memory: the report of the run in its manner
abbrev pub WholeDue : Manner → Status → List ℕ → Source → Bound → Type 0
WholeDue manner s text source script = IsRun source.program script manner s text

-- over its two halves: the far side is loaded with the texts that the source is cut into, and the report of the run over what it answered is due, and behind it, where they are asked for, the lines of the messages and that of the layout of the state that the run leaves
pub record SplitDue (manner : SplitManner) (loaded : Option Loaded) (es : List Exchange) (s : Status) (text : List ℕ) (source : Source) (script : Bound) : Type 0 where
  pub plan : Plan
  pub texts : Texts
  pub cut : IsCutInto source plan texts
  pub report : List ℕ
  pub ran : Ran source.program plan texts script manner.ticks loaded es s report
  pub shown : text ≡ with_lines manner es (world_left source.program plan script manner.ticks loaded es) report

-- what is due of a source and a script that are both there, by the way in which the script is run
abbrev pub WayDue : Way → Option Loaded → List Exchange → Status → List ℕ → Source → Bound → Type 0
WayDue (way.Whole manner) loaded es s text = WholeDue manner s text
WayDue (way.Split manner) loaded es s text = SplitDue manner loaded es s text

-- what is due of a run, by what it is of
abbrev pub RunAnswered : Inputs → (files : Files) → (Due : Source → Bound → Type 0) → Status → List ℕ → Type 0
RunAnswered (OfFiles source_name script_name) files Due s text = FileAnswered files source_name script_name Due s text

-- ---- a seed

-- the far side is loaded with the texts that the driver is cut into, and what the run over what it answered shows is told
pub record MadeDue (recipe : Recipe) (loaded : Option Loaded) (es : List Exchange) (s : Status) (text : List ℕ) (source : Source) (script : Bound) : Type 0 where
  pub plan : Plan
  pub texts : Texts
  pub cut : IsCutInto source plan texts
  pub outcome : Outcome
  pub ran : RanTo source.program plan texts script budget loaded es outcome
  pub told : IsTold recipe source.program es outcome s text

-- the driver and the script that the seed makes are a source and a script, and are run over the driver's two halves
pub record MadeAnswered (recipe : Recipe) (loaded : Option Loaded) (es : List Exchange) (s : Status) (text : List ℕ) : Type 0 where
  pub source : Source
  pub script : Bound
  pub has : HasSource driver_text source
  pub bound : HasScript source.program (lines_from recipe.seed recipe.size) script
  pub due : MadeDue recipe loaded es s text source script

-- ---- a transcript

-- the transcript isn't read, or it is held against the run of the script over the source's halves
pub data TranscriptDue (files : Files) (name : List ℕ) (s : Status) (text : List ℕ) (source : Source) (script : Bound) : Type 0 where
  unread : Unread files name longest_transcript s text → TranscriptDue files name s text source script
  judged : (bytes : List ℕ) → ReadsFrom files name longest_transcript (reads.Ok bytes) → IsJudged source script bytes s text → TranscriptDue files name s text source script

abbrev pub VerifyAnswered : (files : Files) (source_name script_name transcript_name : List ℕ) → Status → List ℕ → Type 0
VerifyAnswered files source_name script_name transcript_name s text = FileAnswered files source_name script_name (TranscriptDue files transcript_name s text) s text

-- ---- three texts and a script

-- the files hold the texts
pub record HoldTexts (files : Files) (names : TextNames) (texts : Texts) : Type 0 where
  pub kernel_read : ReadsFrom files names.kernel longest_text (reads.Ok texts.kernel)
  pub user_read : ReadsFrom files names.user longest_text (reads.Ok texts.user)
  pub plan_read : ReadsFrom files names.plan longest_text (reads.Ok texts.plan)

-- texts that aren't taken: the first whose file isn't read, or they are refused
pub data UntakenTexts (files : Files) (names : TextNames) (s : Status) (text : List ℕ) : Type 0 where
  no_kernel : Unread files names.kernel longest_text s text → UntakenTexts files names s text
  no_user : (kernel : List ℕ) → ReadsFrom files names.kernel longest_text (reads.Ok kernel) → Unread files names.user longest_text s text → UntakenTexts files names s text
  no_plan : (kernel user : List ℕ) → ReadsFrom files names.kernel longest_text (reads.Ok kernel) → ReadsFrom files names.user longest_text (reads.Ok user) → Unread files names.plan longest_text s text → UntakenTexts files names s text
  refused : (texts : Texts) → HoldTexts files names texts → NoHalves texts s text → UntakenTexts files names s text

-- texts that are taken, those of this source
pub record AreTaken (files : Files) (names : TextNames) (source : Source) : Type 0 where
  pub texts : Texts
  pub held : HoldTexts files names texts
  pub has : HasHalves texts source

-- what is due of them is what is due of a run over the two halves of their source
abbrev pub TextsAnswered : TextNames → (script_name : List ℕ) → (files : Files) → Option Loaded → List Exchange → Status → List ℕ → Type 0
TextsAnswered names script_name files loaded es s text = ScriptAnswered files (UntakenTexts files names) (AreTaken files names) script_name (SplitDue texts_manner loaded es s text) s text

-- ---- the words

-- the status and the text that are due
pub data Answered (words : List (List ℕ)) (files : Files) (loaded : Option Loaded) (es : List Exchange) (s : Status) (text : List ℕ) : Type 0 where
  usage : command_of words ≡ None → s ≡ status.Usage → text ≡ usage_line → Answered words files loaded es s text
  cut : (how : Cutting) (name : List ℕ) → command_of words ≡ Some (Cut how name) → CutAnswered how files name s text → Answered words files loaded es s text
  ran : (inputs : Inputs) (in_way : Way) → command_of words ≡ Some (Run inputs in_way) → RunAnswered inputs files (WayDue in_way loaded es s text) s text → Answered words files loaded es s text
  made : (recipe : Recipe) → command_of words ≡ Some (Generate recipe) → MadeAnswered recipe loaded es s text → Answered words files loaded es s text
  verified : (source_name script_name transcript_name : List ℕ) → command_of words ≡ Some (Verify source_name script_name transcript_name) → VerifyAnswered files source_name script_name transcript_name s text → Answered words files loaded es s text
  texts : (names : TextNames) (script_name : List ℕ) → command_of words ≡ Some (RunTexts names script_name) → TextsAnswered names script_name files loaded es s text → Answered words files loaded es s text

-- ---- what is printed

-- the whole text that is due is written; or a part from its beginning, where a call of the output failed; or nothing, for want of memory
pub data Prints (words : List (List ℕ)) (before after : Outside) (s : Status) : Type 0 where
  whole : (text : List ℕ) → Answered words before.sides.shelf.files after.sides.far.loaded after.sides.far.exchanges s text → IsWritten before.out after.out text → Prints words before after s
  cut : (due : Status) (text : List ℕ) → s ≡ status.WriteFault → Answered words before.sides.shelf.files after.sides.far.loaded after.sides.far.exchanges due text → IsCutOff before.out after.out text → Prints words before after s
  nothing : s ≡ status.OutOfMemory → after.out ≡ before.out → Prints words before after s
