-- What holds where a status comes.
use Rattle.std.proofs.Common.{◌≡◌, ℕ, List, Option, Some, None, refl, sym, subst}
use Rattle.mdr_due.specs.declared.status.Status.{Status}
use Rattle.mdr_due.specs.declared.status.Status.TheVariants as status
use Rattle.mdr_due.specs.Reads.{Files, longest_source, longest_script}
use Rattle.mdr_top.proofs.SeedSteps.{told_status}
use Rattle.mdr_top.specs.declared.recipe.Recipe.{Recipe}
use Rattle.mdr_top.specs.Generated.{budget}
use Rattle.mdr_model.specs.declared.outcome.End.{End}
use Rattle.mdr_model.specs.declared.outcome.End.TheVariants as ends
use Rattle.mdr_model.specs.Law.{IsOwn}
use Rattle.mdr_outside.specs.declared.far.Exchange.{Exchange}
use Rattle.mdr_outside.specs.declared.far.Loaded.{Loaded}
use Rattle.mdr_outside.specs.declared.shelf.ReadAnswer.TheVariants as reads
use Rattle.mdr_outside.specs.Shelf.{ReadsFrom}
use Rattle.mdr_top.specs.declared.manner.Manner.{Manner}
use Rattle.mdr_top.specs.WholeRuns.{status_of}
use Rattle.mdr_top.specs.Scripts.{HasScript}
use Rattle.mdr_top.proofs.Stages.{outcome_own}
use Rattle.mdr_bound.specs.declared.bound.Bound.{Bound}
use Rattle.mdr_source.specs.declared.outcome.Source.{Source}
use Rattle.mdr_top.specs.declared.split_manner.SplitManner.{SplitManner}
use Rattle.mdr_top.specs.CutInto.{IsCutInto}
use Rattle.mdr_top.specs.Ends.{EndsWith, FailedLast}
use Rattle.mdr_top.proofs.Endings.{fails_last, outcome_ends, split_runs_end}
use Rattle.mdr_top.specs.Answers.{Unread, Untaken, IsTaken, CutAnswered, ScriptAnswered, FileAnswered, WholeDue, SplitDue, WayDue, RunAnswered, MadeAnswered, TranscriptDue, VerifyAnswered, Answered, Prints, UntakenTexts, TextsAnswered}
use Rattle.mdr_top.proofs.Said.{said_exactly}
use Rattle.mdr_top.specs.TranscriptLaws.{IsExactly}
use Rattle.mdr_top.specs.Verifies.{longest_transcript}
use Rattle.mdr_top.specs.Comes.{AreNamed, IsRunFor, WasJudged, IsWanted, IsRunSource, IsRefused, IsNoScript, IsScriptRefused, WasCut, IsWholeEnd, IsEnd, IsDone, IsStopped, Comes, IsText, AreRefused, IsNoTextsScript}
use Rattle.mdr_top.specs.Reports.{Ran}
use Rattle.mdr_cut.specs.declared.texts.Texts.{Texts}
use Rattle.mdr_cut.proofs.Determined.{texts_are_determined}
use Rattle.mdr_halves.proofs.Refusing.{refused_are_none}
use Rattle.mdr_top.specs.Names.{TextNames}
use Rattle.mdr_top.specs.Reads.{longest_text}
use Rattle.mdr_top.specs.Cuts.{IsSplit, IsCut}
use Rattle.mdr_top.specs.declared.words.Cutting.{Cutting}
use Rattle.mdr_top.specs.declared.words.Cutting.TheVariants as cutting
use Rattle.mdr_top.specs.declared.words.Way.{Way}
use Rattle.mdr_top.specs.declared.words.Way.TheVariants as way
use Rattle.mdr_top.specs.Outside.{Outside}
use Rattle.mdr_top.specs.Words.{Inputs, OfFiles, Cut, Run, Generate, Verify, command_of, RunTexts, texts_manner}

-- a read that failed says nothing
failed_reads : (files : Files) (name : List ℕ) (limit : ℕ) → ReadsFrom files name limit reads.Failed
failed_reads None name limit = tt
failed_reads (Some f) name limit = tt

-- ---- each status

module _ (words : List (List ℕ)) (files : Files) (loaded : Option Loaded) (es : List Exchange) where
  unread_comes : (name : List ℕ) (limit : ℕ) (s : Status) (text : List ℕ) → IsWanted words files name limit → Unread files name limit s text → Comes words files loaded es s
  unread_comes name limit s text w (Unread.missing r e t) = subst (Comes words files loaded es) (sym e) (record { name = name; limit = limit; wanted = w; answers = r })
  unread_comes name limit s text w (Unread.long r e t) = subst (Comes words files loaded es) (sym e) (record { name = name; limit = limit; wanted = w; answers = r })
  unread_comes name limit s text w (Unread.failed e t) = subst (Comes words files loaded es) (sym e) (record { name = name; limit = limit; wanted = w; answers = failed_reads files name limit })

  cut_comes : (how : Cutting) (name : List ℕ) (s : Status) (text : List ℕ) → command_of words ≡ Some (Cut how name) → CutAnswered how files name s text → Comes words files loaded es s
  cut_comes how name s text e (CutAnswered.untaken (Untaken.unread u)) = unread_comes name longest_source s text (IsWanted.as_cut how e refl) u
  cut_comes how name s text e (CutAnswered.untaken (Untaken.refused bytes r n)) =
      subst (Comes words files loaded es) (sym n.status_is) (IsRefused.no_cut (record { bytes = bytes; named = record { how = how; name = name; command = e; read = r }; refusal = n.refusal; refused = n.comes }))
  cut_comes how name s text e (CutAnswered.accepted source h c) = of how c
    where
      was : WasCut words files
      was = record { bytes = h.bytes; named = record { how = how; name = name; command = e; read = h.read }; source = source; has = h.has }

      of : (k : Cutting) → IsCut k name source s text → Comes words files loaded es s
      of cutting.Split (IsSplit.whole texts are is t) = subst (Comes words files loaded es) (sym is) (IsDone.cut was)
      of cutting.Split (IsSplit.failed texts i file are at is t) = subst (Comes words files loaded es) (sym is) tt
      of cutting.Report reported = subst (Comes words files loaded es) (sym reported.status_is) (IsDone.cut was)

  -- a source and a script that are named: where one of them isn't taken, or the run that is due of them
  script_comes : (name script_name : List ℕ) (Due : Source → Bound → Type 0) (s : Status) (text : List ℕ) → AreNamed words name script_name
      → ((source : Source) (lines : List ℕ) (script : Bound) → IsTaken files name source → ReadsFrom files script_name longest_script (reads.Ok lines) → HasScript source.program lines script → Due source script → Comes words files loaded es s)
      → FileAnswered files name script_name Due s text → Comes words files loaded es s
  script_comes name script_name Due s text named ends (ScriptAnswered.no_source (Untaken.unread u)) = unread_comes name longest_source s text (IsWanted.as_source script_name named refl) u
  script_comes name script_name Due s text named ends (ScriptAnswered.no_source (Untaken.refused bytes r n)) =
      subst (Comes words files loaded es) (sym n.status_is) (IsRefused.no_run (record { bytes = bytes; named = record { name = name; script_name = script_name; named = named; read = r }; refusal = n.refusal; refused = n.comes }))
  script_comes name script_name Due s text named ends (ScriptAnswered.script_unread source h u) = unread_comes script_name longest_script s text (IsWanted.as_script name h.bytes source named h.read h.has refl) u
  script_comes name script_name Due s text named ends (ScriptAnswered.script_refused source lines h r n) =
      let named' : IsRunSource words files h.bytes = record { name = name; script_name = script_name; named = named; read = h.read } in
      let none : IsNoScript words files = record { bytes = h.bytes; named = named'; source = source; has = h.has; lines = lines; read = r; line = n.line; kind = n.kind; refused = n.refused } in
      subst (Comes words files loaded es) (sym n.status_is) (IsScriptRefused.of_file none)
  script_comes name script_name Due s text named ends (ScriptAnswered.ran source lines script h r b due) = ends source lines script h r b due

  own_comes : (end : End) → IsOwn end → IsWholeEnd words files (status_of end) → Comes words files loaded es (status_of end)
  own_comes ends.Ok own h = IsDone.whole h
  own_comes (ends.Stop kind at) own h = IsStopped.whole h
  own_comes (ends.Refused exchange cause number) own h = absurd own
  own_comes (ends.FarFault exchange) own h = absurd own

  whole_comes : (name script_name : List ℕ) (manner : Manner) (s : Status) (text : List ℕ) → command_of words ≡ Some (Run (OfFiles name script_name) (way.Whole manner)) → FileAnswered files name script_name (WholeDue manner s text) s text → Comes words files loaded es s
  whole_comes name script_name manner s text e answered =
      script_comes name script_name (WholeDue manner s text) s text (AreNamed.run (way.Whole manner) e)
      (λ source lines script h r b run. subst (Comes words files loaded es) (sym run.status_is) (own_comes run.outcome.end (outcome_own source.program script manner run.outcome run.is_outcome) (record {
        source = source;
        script = script;
        manner = manner;
        accepted = record { source_name = name; script_name = script_name; command = e; bytes = h.bytes; source_read = h.read; compiled = h.has.comes; lines = lines; script_read = r; bound = b };
        sound = h.has.sound;
        ends = record { outcome = run.outcome; is_outcome = run.is_outcome; status_is = refl };
      })))
      answered

  end_comes : (end : End) → IsEnd words files loaded es (status_of end) → Comes words files loaded es (status_of end)
  end_comes ends.Ok h = IsDone.over_halves h
  end_comes (ends.Stop kind at) h = IsStopped.over_halves h
  end_comes (ends.Refused exchange cause number) h = h
  end_comes (ends.FarFault exchange) h = h

  split_comes : (name script_name : List ℕ) (manner : SplitManner) (s : Status) (text : List ℕ) → command_of words ≡ Some (Run (OfFiles name script_name) (way.Split manner)) → FileAnswered files name script_name (SplitDue manner loaded es s text) s text → Comes words files loaded es s
  split_comes name script_name manner s text e answered = script_comes name script_name (SplitDue manner loaded es s text) s text (AreNamed.run (way.Split manner) e) ran answered
    where
      ran : (source : Source) (lines : List ℕ) (script : Bound) → IsTaken files name source → ReadsFrom files script_name longest_script (reads.Ok lines) → HasScript source.program lines script → SplitDue manner loaded es s text source script → Comes words files loaded es s
      ran source lines script h r b due =
          let ended : EndsWith source.program due.plan due.texts script manner.ticks loaded es s = split_runs_end source.program due.plan due.texts script manner.ticks loaded es s due.report due.ran in
          subst (Comes words files loaded es) (sym ended.status_is) (end_comes ended.end (IsEnd.split (record {
            source = source;
            script = script;
            manner = manner;
            accepted = record { source_name = name; script_name = script_name; command = e; bytes = h.bytes; source_read = h.read; compiled = h.has.comes; lines = lines; script_read = r; bound = b };
            sound = h.has.sound;
            plan = due.plan;
            texts = due.texts;
            cut = due.cut;
            ends = record { end = ended.end; ends = ended.ends; status_is = refl };
          })))

  run_comes : (inputs : Inputs) (in_way : Way) (s : Status) (text : List ℕ) → command_of words ≡ Some (Run inputs in_way) → RunAnswered inputs files (WayDue in_way loaded es s text) s text → Comes words files loaded es s
  run_comes (OfFiles name script_name) (way.Whole manner) s text e c = whole_comes name script_name manner s text e c
  run_comes (OfFiles name script_name) (way.Split manner) s text e c = split_comes name script_name manner s text e c

  made_comes : (recipe : Recipe) (s : Status) (text : List ℕ) → command_of words ≡ Some (Generate recipe) → MadeAnswered recipe loaded es s text → Comes words files loaded es s
  made_comes recipe s text e m =
      let ended : EndsWith m.source.program m.due.plan m.due.texts m.script budget loaded es s = outcome_ends m.source.program m.due.plan m.due.texts m.script budget loaded es m.due.outcome s m.due.ran (told_status recipe m.source.program es m.due.outcome s text m.due.told) in
      subst (Comes words files loaded es) (sym ended.status_is) (end_comes ended.end (IsEnd.made (record {
        recipe = recipe;
        command = e;
        source = m.source;
        script = m.script;
        has = m.has;
        bound = m.bound;
        plan = m.due.plan;
        texts = m.due.texts;
        cut = m.due.cut;
        ends = record { end = ended.end; ends = ended.ends; status_is = refl };
      })))

  verify_comes : (name script_name transcript_name : List ℕ) (s : Status) (text : List ℕ) → command_of words ≡ Some (Verify name script_name transcript_name) → VerifyAnswered files name script_name transcript_name s text → Comes words files loaded es s
  verify_comes name script_name transcript_name s text e answered = script_comes name script_name (TranscriptDue files transcript_name s text) s text (AreNamed.verify transcript_name e) ran answered
    where
      of_said : (was : WasJudged words files s) → IsExactly was.transcript was.exchanges was.report s → Comes words files loaded es s
      of_said was (IsExactly.same is done) = subst (Comes words files loaded es) (sym done) (IsDone.verified (subst (WasJudged words files) done was))
      of_said was (IsExactly.other not so) = subst (Comes words files loaded es) (sym so) (subst (WasJudged words files) so was)

      ran : (source : Source) (lines : List ℕ) (script : Bound) → IsTaken files name source → ReadsFrom files script_name longest_script (reads.Ok lines) → HasScript source.program lines script → TranscriptDue files transcript_name s text source script → Comes words files loaded es s
      ran source lines script h r b due = of due
        where
          run : IsRunFor words files transcript_name source script
          run = record { source_name = name; script_name = script_name; command = e; bytes = h.bytes; source_read = h.read; has = h.has; lines = lines; script_read = r; bound = b }

          of : TranscriptDue files transcript_name s text source script → Comes words files loaded es s
          of (TranscriptDue.unread u) = unread_comes transcript_name longest_transcript s text (IsWanted.as_transcript source script run refl) u
          of (TranscriptDue.judged bytes t j) =
              let exactly : IsExactly bytes j.exchanges j.report s = said_exactly bytes j.exchanges j.report s text j.said in
              of_said (record { name = transcript_name; source = source; script = script; run = run; transcript = bytes; read = t; exchanges = j.exchanges; report = j.report; honest = j.run; exactly = exactly }) exactly

  -- a text of three that isn't read, or texts that are refused
  untaken_comes : (names : TextNames) (script_name : List ℕ) (s : Status) (text : List ℕ) → command_of words ≡ Some (RunTexts names script_name) → UntakenTexts files names s text → Comes words files loaded es s
  untaken_comes names script_name s text e (UntakenTexts.no_kernel u) = unread_comes names.kernel longest_text s text (IsWanted.as_text (IsText.kernel names script_name e refl) refl) u
  untaken_comes names script_name s text e (UntakenTexts.no_user kernel r u) = unread_comes names.user longest_text s text (IsWanted.as_text (IsText.user names script_name kernel e r refl) refl) u
  untaken_comes names script_name s text e (UntakenTexts.no_plan kernel user r q u) = unread_comes names.plan longest_text s text (IsWanted.as_text (IsText.plan names script_name kernel user e r q refl) refl) u
  untaken_comes names script_name s text e (UntakenTexts.refused texts h n) =
      let none : AreRefused words files = record { names = names; script_name = script_name; command = e; texts = texts; held = h; mismatch = n.mismatch; come = n.come; none = λ source are. refused_are_none texts n.mismatch source n.come are } in
      subst (Comes words files loaded es) (sym n.status_is) none

  texts_come : (names : TextNames) (script_name : List ℕ) (s : Status) (text : List ℕ) → command_of words ≡ Some (RunTexts names script_name) → TextsAnswered names script_name files loaded es s text → Comes words files loaded es s
  texts_come names script_name s text e (ScriptAnswered.no_source u) = untaken_comes names script_name s text e u
  texts_come names script_name s text e (ScriptAnswered.script_unread source t u) = unread_comes script_name longest_script s text (IsWanted.as_script_of_texts names source e t refl) u
  texts_come names script_name s text e (ScriptAnswered.script_refused source lines t r n) =
      let none : IsNoTextsScript words files = record { names = names; script_name = script_name; command = e; source = source; taken = t; lines = lines; read = r; line = n.line; kind = n.kind; refused = n.refused } in
      subst (Comes words files loaded es) (sym n.status_is) (IsScriptRefused.of_texts none)
  texts_come names script_name s text e (ScriptAnswered.ran source lines script t r b due) =
      let same : due.texts ≡ t.texts = texts_are_determined source.tree source.program due.texts t.texts due.cut.are_texts t.has.are.are in
      let cut = subst (λ (x : Texts). IsCutInto source due.plan x) same due.cut in
      let ran = subst (λ (x : Texts). Ran source.program due.plan x script texts_manner.ticks loaded es s due.report) same due.ran in
      let ended : EndsWith source.program due.plan t.texts script texts_manner.ticks loaded es s = split_runs_end source.program due.plan t.texts script texts_manner.ticks loaded es s due.report ran in
      subst (Comes words files loaded es) (sym ended.status_is) (end_comes ended.end (IsEnd.texts (record {
        source = source;
        script = script;
        accepted = record { names = names; script_name = script_name; command = e; taken = t; lines = lines; script_read = r; bound = b };
        plan = due.plan;
        cut = cut;
        ends = record { end = ended.end; ends = ended.ends; status_is = refl };
      })))

  answered_comes : (s : Status) (text : List ℕ) → Answered words files loaded es s text → Comes words files loaded es s
  answered_comes s text (Answered.usage e is t) = subst (Comes words files loaded es) (sym is) e
  answered_comes s text (Answered.cut how name e c) = cut_comes how name s text e c
  answered_comes s text (Answered.ran inputs in_way e c) = run_comes inputs in_way s text e c
  answered_comes s text (Answered.made recipe e c) = made_comes recipe s text e c
  answered_comes s text (Answered.verified name script_name transcript_name e c) = verify_comes name script_name transcript_name s text e c
  answered_comes s text (Answered.texts names script_name e c) = texts_come names script_name s text e c

pub prints_comes : (words : List (List ℕ)) (before after : Outside) (s : Status) → Prints words before after s → Comes words before.sides.shelf.files after.sides.far.loaded after.sides.far.exchanges s
prints_comes words before after s (Prints.whole text a w) = answered_comes words before.sides.shelf.files after.sides.far.loaded after.sides.far.exchanges s text a
prints_comes words before after s (Prints.cut due text is a c) = subst (Comes words before.sides.shelf.files after.sides.far.loaded after.sides.far.exchanges) (sym is) tt
prints_comes words before after s (Prints.nothing is same) = subst (Comes words before.sides.shelf.files after.sides.far.loaded after.sides.far.exchanges) (sym is) tt

-- where the far side failed
pub comes_last : (words : List (List ℕ)) (files : Files) (loaded : Option Loaded) (es : List Exchange) (s : Status) → Comes words files loaded es s → s ≡ status.FarFault → FailedLast loaded es
comes_last words files loaded es s comes is = of (subst (Comes words files loaded es) is comes)
  where
    of : IsEnd words files loaded es status.FarFault → FailedLast loaded es
    of (IsEnd.split e) = fails_last e.source.program e.plan e.texts e.script e.manner.ticks loaded es status.FarFault e.ends refl
    of (IsEnd.made e) = fails_last e.source.program e.plan e.texts e.script budget loaded es status.FarFault e.ends refl
    of (IsEnd.texts e) = fails_last e.source.program e.plan e.accepted.taken.texts e.script texts_manner.ticks loaded es status.FarFault e.ends refl
