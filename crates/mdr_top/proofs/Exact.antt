-- The status is what words and files give.
use Rattle.std.proofs.Common.{◌≡◌, ℕ, ◌<◌, ◌⊎◌, inl, inr, Bool, List, length, Option, Some, None, Result, Ok, Err, refl, sym, subst}
use Rattle.std.specs.Prelude.{IfSome, IsSomeAnd}
use Rattle.std.proofs.lemmas.Bool.{lt-ltb, le-ltb}
use Rattle.mdr_core.specs.declared.program.Program.{Program}
use Rattle.mdr_due.specs.Statuses.{ReadCause}
use Rattle.mdr_due.specs.declared.status.Status.{Status}
use Rattle.mdr_due.specs.declared.status.Status.TheVariants as status
use Rattle.mdr_due.specs.Reads.{Files, longest_source, longest_script}
use Rattle.mdr_top.proofs.SeedSteps.{told_status}
use Rattle.mdr_top.specs.declared.recipe.Recipe.{Recipe}
use Rattle.mdr_outside.specs.Count.{Rose}
use Rattle.mdr_outside.specs.declared.far.Exchange.{Exchange}
use Rattle.mdr_outside.specs.declared.far.Loaded.{Loaded}
use Rattle.mdr_outside.specs.declared.shelf.ReadAnswer.TheVariants as reads
use Rattle.mdr_outside.specs.Shelf.{ReadsFrom}
use Rattle.mdr_top.specs.declared.manner.Manner.{Manner}
use Rattle.mdr_top.specs.WholeRuns.{EndsWith}
use Rattle.mdr_top.specs.Scripts.{script_for}
use Rattle.mdr_bound.specs.declared.bound.Bound.{Bound}
use Rattle.mdr_script.specs.declared.script_error.ScriptKind.{ScriptKind}
use Rattle.mdr_source.specs.declared.outcome.Source.{Source}
use Rattle.mdr_top.specs.Answers.{Unread, Untaken, IsTaken, CutAnswered, ScriptAnswered, FileAnswered, WholeDue, SplitDue, WayDue, RunAnswered, MadeAnswered, TranscriptDue, VerifyAnswered, Answered, Prints, HoldTexts, AreTaken, UntakenTexts, TextsAnswered}
use Rattle.mdr_top.specs.Comes.{IsUntakenDue, IsTakenDue, IsCutDue, IsBoundDue, IsSizedDue, IsScriptDue, IsRunDue, IsFileDue, IsWholeDue, WayEnds, IsDueOf, IsMadeDue, IsTranscriptDue, IsVerifyDue, IsDueFor, IsDueOrFault, IsExact, CutCompletes, MadeExactly, WholeCompletes, IsNoTextDue, IsTextDue, AreTextsDue, AreUntakenDue, AreTakenDue, IsTextsDue}
use Rattle.mdr_top.specs.Cuts.{IsSplit, IsCut, CutCause, WroteCause, WriteCause}
use Rattle.mdr_top.specs.declared.words.Cutting.{Cutting}
use Rattle.mdr_top.specs.declared.words.Cutting.TheVariants as cutting
use Rattle.mdr_top.specs.declared.words.Way.{Way}
use Rattle.mdr_top.specs.declared.words.Way.TheVariants as way
use Rattle.mdr_top.specs.Headline.{Rests, RestsHere}
use Rattle.mdr_top.specs.Outside.{Outside}
use Rattle.mdr_top.specs.Splits.{IsOfRun}
use Rattle.mdr_top.specs.Words.{Inputs, OfFiles, Task, Cut, Run, Generate, command_of, texts_manner}
use Rattle.mdr_top.proofs.Said.{said_exactly}
use Rattle.mdr_top.specs.Verifies.{longest_transcript}
use Rattle.mdr_top.proofs.SplitLaws.{end_status, run_status}
use Rattle.mdr_cut.specs.declared.texts.Texts.{Texts}
use Rattle.mdr_halves.proofs.Refusing.{refused_are_none}
use Rattle.mdr_top.specs.Names.{TextNames}
use Rattle.mdr_top.specs.Reads.{longest_text}

-- what a seed gives
made_due : (loaded : Option Loaded) (es : List Exchange) (s : Status) (text : List ℕ) (recipe : Recipe) → MadeAnswered recipe loaded es s text → IsMadeDue recipe s
made_due loaded es s text recipe m = record {
  source = m.source;
  script = m.script;
  comes = m.has.comes;
  bound = m.bound;
  ends = subst IsOfRun (sym (told_status recipe m.source.program es m.due.outcome s text m.due.told)) (end_status m.due.outcome.end);
}

module _ (words : List (List ℕ)) (f : List ℕ → Option (List ℕ)) (loaded : Option Loaded) (es : List Exchange) (s : Status) (text : List ℕ) where
  -- a source that isn't taken, or whose file couldn't be read
  untaken_due : (name : List ℕ) → Untaken (Some f) name s text → (s ≡ status.ReadFault) ⊎ IsUntakenDue (f name) s
  untaken_due name (Untaken.unread (Unread.missing r e t)) = inr (IsUntakenDue.missing r e)
  untaken_due name (Untaken.unread (Unread.long r e t)) = inr (of (f name) refl r)
    where
      of : (o : Option (List ℕ)) → f name ≡ o → IsSomeAnd o (λ bytes. longest_source < length bytes) → IsUntakenDue (f name) s
      of None is h = elim h [ ]
      of (Some bytes) is h = IsUntakenDue.long bytes is h e
  untaken_due name (Untaken.unread (Unread.failed e t)) = inl e
  untaken_due name (Untaken.refused bytes r n) = inr (IsUntakenDue.refused bytes n.refusal r.0 r.1 n.comes n.status_is)

  taken_due : (name : List ℕ) (source : Source) → IsTaken (Some f) name source → IsTakenDue (f name) source
  taken_due name source h = record { bytes = h.bytes; holds = h.read.0; fits = h.read.1; comes = h.has.comes }

  -- what is due, but that a read may have failed
  or_fault : (Known Due : Type 0) → (Known → Due) → (s ≡ status.ReadFault) ⊎ Known → IsDueOrFault Due s
  or_fault Known Due go (inl is) = inl is
  or_fault Known Due go (inr known) = inr (inr (inr (go known)))

  cut_due : (how : Cutting) (name : List ℕ) → CutAnswered how (Some f) name s text → IsDueOrFault (IsCutDue (f name) s) s
  cut_due how name (CutAnswered.untaken u) = or_fault (IsUntakenDue (f name) s) (IsCutDue (f name) s) (λ none. IsCutDue.untaken none) (untaken_due name u)
  cut_due how name (CutAnswered.accepted source h c) = of how c
    where
      of : (k : Cutting) → IsCut k name source s text → IsDueOrFault (IsCutDue (f name) s) s
      of cutting.Split (IsSplit.whole texts are is t) = inr (inr (inr (IsCutDue.accepted source (taken_due name source h) is)))
      of cutting.Split (IsSplit.failed texts i file are at is t) = inr (inl is)
      of cutting.Report reported = inr (inr (inr (IsCutDue.accepted source (taken_due name source h) reported.status_is)))

  -- the script's file is there and fits
  script_fits : (script_name lines : List ℕ) (program : Program) (Ends : Bound → Type 0) (given : Result Bound (ℕ × ScriptKind)) → ReadsFrom (Some f) script_name longest_script (reads.Ok lines) → script_for program lines ≡ given → IsBoundDue Ends given s
      → IsScriptDue program Ends (f script_name) s
  script_fits script_name lines program Ends given r b due =
      subst (λ (o : Option (List ℕ)). IsScriptDue program Ends o s) (sym r.0)
      (subst (λ (long : Bool). IsSizedDue long (IsBoundDue Ends (script_for program lines) s) s) (sym (le-ltb longest_script (length lines) r.1))
      (subst (λ (given' : Result Bound (ℕ × ScriptKind)). IsBoundDue Ends given' s) (sym b) due))

  script_unfit : (script_name : List ℕ) (program : Program) (Ends : Bound → Type 0) → Unread (Some f) script_name longest_script s text → (s ≡ status.ReadFault) ⊎ IsScriptDue program Ends (f script_name) s
  script_unfit script_name program Ends (Unread.missing r e t) = inr (subst (λ (o : Option (List ℕ)). IsScriptDue program Ends o s) (sym r) e)
  script_unfit script_name program Ends (Unread.long r e t) = inr (of (f script_name) r)
    where
      of : (o : Option (List ℕ)) → IsSomeAnd o (λ bytes. longest_script < length bytes) → IsScriptDue program Ends o s
      of None h = elim h [ ]
      of (Some lines) h = subst (λ (long : Bool). IsSizedDue long (IsBoundDue Ends (script_for program lines) s) s) (sym (lt-ltb longest_script (length lines) h)) e
  script_unfit script_name program Ends (Unread.failed e t) = inl e

  -- what a source and a script give, where it is told what a run of them gives
  run_due : (Ends : Program → Bound → Type 0) (Due : Source → Bound → Type 0) (name script_name : List ℕ) → ((source : Source) (script : Bound) → Due source script → Ends source.program script)
      → FileAnswered (Some f) name script_name Due s text → IsDueOrFault (IsFileDue Ends (f name) (f script_name) s) s
  run_due Ends Due name script_name ends (ScriptAnswered.no_source u) = or_fault (IsUntakenDue (f name) s) (IsFileDue Ends (f name) (f script_name) s) (λ none. IsRunDue.no_source none) (untaken_due name u)
  run_due Ends Due name script_name ends (ScriptAnswered.script_unread source h u) =
      or_fault (IsScriptDue source.program (Ends source.program) (f script_name) s) (IsFileDue Ends (f name) (f script_name) s) (λ due. IsRunDue.accepted source (taken_due name source h) due) (script_unfit script_name source.program (Ends source.program) u)
  run_due Ends Due name script_name ends (ScriptAnswered.script_refused source lines h r n) =
      inr (inr (inr (IsRunDue.accepted source (taken_due name source h) (script_fits script_name lines source.program (Ends source.program) (Err (n.line, n.kind)) r n.refused n.status_is))))
  run_due Ends Due name script_name ends (ScriptAnswered.ran source lines script h r b due) =
      inr (inr (inr (IsRunDue.accepted source (taken_due name source h) (script_fits script_name lines source.program (Ends source.program) (Ok script) r b (ends source script due)))))

  ran_due : (inputs : Inputs) (in_way : Way) → RunAnswered inputs (Some f) (WayDue in_way loaded es s text) s text → IsDueOrFault (IsDueOf inputs f (WayEnds in_way s) s) s
  ran_due (OfFiles name script_name) (way.Whole manner) c =
      run_due (λ program bound. EndsWith program bound manner s) (WholeDue manner s text) name script_name (λ source script run. record { outcome = run.outcome; is_outcome = run.is_outcome; status_is = run.status_is }) c
  ran_due (OfFiles name script_name) (way.Split manner) c =
      run_due (λ program bound. IsOfRun s) (SplitDue manner loaded es s text) name script_name (λ source script due. run_status source.program due.plan due.texts script manner.ticks loaded es s due.report due.ran) c

  transcript_due : (name : List ℕ) (source : Source) (script : Bound) → TranscriptDue (Some f) name s text source script → (s ≡ status.ReadFault) ⊎ IsTranscriptDue source script (f name) s
  transcript_due name source script (TranscriptDue.unread (Unread.missing r e t)) = inr (IsTranscriptDue.missing r e)
  transcript_due name source script (TranscriptDue.unread (Unread.long r e t)) = inr (of (f name) refl r)
    where
      of : (o : Option (List ℕ)) → f name ≡ o → IsSomeAnd o (λ bytes. longest_transcript < length bytes) → IsTranscriptDue source script (f name) s
      of None is h = elim h [ ]
      of (Some bytes) is h = IsTranscriptDue.long bytes is h e
  transcript_due name source script (TranscriptDue.unread (Unread.failed e t)) = inl e
  transcript_due name source script (TranscriptDue.judged bytes r j) = inr (IsTranscriptDue.judged bytes j.exchanges j.report r.0 r.1 j.run (said_exactly bytes j.exchanges j.report s text j.said))

  verify_due : (name script_name transcript_name : List ℕ) → VerifyAnswered (Some f) name script_name transcript_name s text → IsDueOrFault (IsVerifyDue (f name) (f script_name) (f transcript_name) s) s
  verify_due name script_name transcript_name (ScriptAnswered.no_source u) =
      or_fault (IsUntakenDue (f name) s) (IsVerifyDue (f name) (f script_name) (f transcript_name) s) (λ none. IsVerifyDue.no_source none) (untaken_due name u)
  verify_due name script_name transcript_name (ScriptAnswered.script_unread source h u) =
      or_fault (IsScriptDue source.program (λ bound. ⊥) (f script_name) s) (IsVerifyDue (f name) (f script_name) (f transcript_name) s) (λ due. IsVerifyDue.no_script source (taken_due name source h) due) (script_unfit script_name source.program (λ bound. ⊥) u)
  verify_due name script_name transcript_name (ScriptAnswered.script_refused source lines h r n) =
      inr (inr (inr (IsVerifyDue.no_script source (taken_due name source h) (script_fits script_name lines source.program (λ bound. ⊥) (Err (n.line, n.kind)) r n.refused n.status_is))))
  verify_due name script_name transcript_name (ScriptAnswered.ran source lines script h r b due) =
      or_fault (IsTranscriptDue source script (f transcript_name) s) (IsVerifyDue (f name) (f script_name) (f transcript_name) s) (λ d. IsVerifyDue.accepted source lines script (taken_due name source h) r.0 r.1 b d) (transcript_due transcript_name source script due)

  -- ---- three texts

  no_text_due : (name : List ℕ) → Unread (Some f) name longest_text s text → (s ≡ status.ReadFault) ⊎ IsNoTextDue (f name) s
  no_text_due name (Unread.missing r e t) = inr (IsNoTextDue.missing r e)
  no_text_due name (Unread.long r e t) = inr (of (f name) refl r)
    where
      of : (o : Option (List ℕ)) → f name ≡ o → IsSomeAnd o (λ bytes. longest_text < length bytes) → IsNoTextDue (f name) s
      of None is h = elim h [ ]
      of (Some bytes) is h = IsNoTextDue.long bytes is h e
  no_text_due name (Unread.failed e t) = inl e

  text_due : (name bytes : List ℕ) → ReadsFrom (Some f) name longest_text (reads.Ok bytes) → IsTextDue (f name) bytes
  text_due name bytes r = record { holds = r.0; fits = r.1 }

  texts_due : (names : TextNames) (texts : Texts) → HoldTexts (Some f) names texts → AreTextsDue f names texts
  texts_due names texts h = record { kernel = text_due names.kernel texts.kernel h.kernel_read; user = text_due names.user texts.user h.user_read; plan = text_due names.plan texts.plan h.plan_read }

  known : (Known Due : Type 0) → (Known → Due) → (s ≡ status.ReadFault) ⊎ Known → (s ≡ status.ReadFault) ⊎ Due
  known Known Due go (inl is) = inl is
  known Known Due go (inr k) = inr (go k)

  untaken_texts_due : (names : TextNames) → UntakenTexts (Some f) names s text → (s ≡ status.ReadFault) ⊎ AreUntakenDue f names s
  untaken_texts_due names (UntakenTexts.no_kernel u) = known (IsNoTextDue (f names.kernel) s) (AreUntakenDue f names s) (λ n. AreUntakenDue.no_kernel n) (no_text_due names.kernel u)
  untaken_texts_due names (UntakenTexts.no_user kernel r u) = known (IsNoTextDue (f names.user) s) (AreUntakenDue f names s) (λ n. AreUntakenDue.no_user kernel (text_due names.kernel kernel r) n) (no_text_due names.user u)
  untaken_texts_due names (UntakenTexts.no_plan kernel user r q u) = known (IsNoTextDue (f names.plan) s) (AreUntakenDue f names s) (λ n. AreUntakenDue.no_plan kernel user (text_due names.kernel kernel r) (text_due names.user user q) n) (no_text_due names.plan u)
  untaken_texts_due names (UntakenTexts.refused texts h n) = inr (AreUntakenDue.refused texts (texts_due names texts h) (λ source are. refused_are_none texts n.mismatch source n.come are) n.status_is)

  taken_texts_due : (names : TextNames) (source : Source) → AreTaken (Some f) names source → AreTakenDue f names source
  taken_texts_due names source t = record { texts = t.texts; due = texts_due names t.texts t.held; are = t.has.are }

  all_texts_due : (names : TextNames) (script_name : List ℕ) → TextsAnswered names script_name (Some f) loaded es s text → IsDueOrFault (IsTextsDue names script_name f s) s
  all_texts_due names script_name (ScriptAnswered.no_source u) = or_fault (AreUntakenDue f names s) (IsTextsDue names script_name f s) (λ none. IsRunDue.no_source none) (untaken_texts_due names u)
  all_texts_due names script_name (ScriptAnswered.script_unread source t u) =
      or_fault (IsScriptDue source.program (λ bound. IsOfRun s) (f script_name) s) (IsTextsDue names script_name f s) (λ due. IsRunDue.accepted source (taken_texts_due names source t) due) (script_unfit script_name source.program (λ bound. IsOfRun s) u)
  all_texts_due names script_name (ScriptAnswered.script_refused source lines t r n) =
      inr (inr (inr (IsRunDue.accepted source (taken_texts_due names source t) (script_fits script_name lines source.program (λ bound. IsOfRun s) (Err (n.line, n.kind)) r n.refused n.status_is))))
  all_texts_due names script_name (ScriptAnswered.ran source lines script t r b due) =
      inr (inr (inr (IsRunDue.accepted source (taken_texts_due names source t) (script_fits script_name lines source.program (λ bound. IsOfRun s) (Ok script) r b (run_status source.program due.plan due.texts script texts_manner.ticks loaded es s due.report due.ran)))))

  answered_due : Answered words (Some f) loaded es s text → IsDueOrFault (IsDueFor (command_of words) f s) s
  answered_due (Answered.usage e is t) = inr (inr (inr (subst (λ (c : Option Task). IsDueFor c f s) (sym e) is)))
  answered_due (Answered.cut how name e c) = subst (λ (d : Option Task). IsDueOrFault (IsDueFor d f s) s) (sym e) (cut_due how name c)
  answered_due (Answered.ran inputs in_way e c) = subst (λ (d : Option Task). IsDueOrFault (IsDueFor d f s) s) (sym e) (ran_due inputs in_way c)
  answered_due (Answered.made recipe e c) = subst (λ (d : Option Task). IsDueOrFault (IsDueFor d f s) s) (sym e) (inr (inr (inr (made_due loaded es s text recipe c))))
  answered_due (Answered.verified name script_name transcript_name e c) = subst (λ (d : Option Task). IsDueOrFault (IsDueFor d f s) s) (sym e) (verify_due name script_name transcript_name c)
  answered_due (Answered.texts names script_name e c) = subst (λ (d : Option Task). IsDueOrFault (IsDueFor d f s) s) (sym e) (all_texts_due names script_name c)

pub prints_exactly : (words : List (List ℕ)) (before after : Outside) (s : Status) → Prints words before after s → IsExact words before.sides.shelf.files s
prints_exactly words before after s p = of before.sides.shelf.files (exactly p)
  where
    exactly : Prints words before after s → (f : List ℕ → Option (List ℕ)) → before.sides.shelf.files ≡ Some f → IsDueOrFault (IsDueFor (command_of words) f s) s
    exactly (Prints.whole text a w) f is = answered_due words f after.sides.far.loaded after.sides.far.exchanges s text (subst (λ (files : Files). Answered words files after.sides.far.loaded after.sides.far.exchanges s text) is a)
    exactly (Prints.cut due text is a c) f told = inr (inl is)
    exactly (Prints.nothing is same) f told = inr (inr (inl is))

    of : (files : Files) → ((f : List ℕ → Option (List ℕ)) → files ≡ Some f → IsDueOrFault (IsDueFor (command_of words) f s) s) → IsExact words files s
    of None due = tt
    of (Some f) due = due f refl

-- words that aren't accepted
pub usage_comes : (words : List (List ℕ)) (before after : Outside) (s : Status) → Prints words before after s → command_of words ≡ None → (s ≡ status.Usage) ⊎ ((s ≡ status.WriteFault) ⊎ (s ≡ status.OutOfMemory))
usage_comes words before after s (Prints.whole text a w) none = of a
  where
    of : Answered words before.sides.shelf.files after.sides.far.loaded after.sides.far.exchanges s text → (s ≡ status.Usage) ⊎ ((s ≡ status.WriteFault) ⊎ (s ≡ status.OutOfMemory))
    of (Answered.usage e is t) = inl is
    of (Answered.cut how name e c) = absurd (Prim.cc)
    of (Answered.ran inputs in_way e c) = absurd (Prim.cc)
    of (Answered.made recipe e c) = absurd (Prim.cc)
    of (Answered.verified name script_name transcript_name e c) = absurd (Prim.cc)
    of (Answered.texts names script_name e c) = absurd (Prim.cc)
usage_comes words before after s (Prints.cut due text is a c) none = inr (inl is)
usage_comes words before after s (Prints.nothing is same) none = inr (inr is)

-- words that ask for a seed
one_recipe : (command : Option Task) (recipe other : Recipe) → command ≡ Some (Generate recipe) → command ≡ Some (Generate other) → recipe ≡ other
one_recipe command recipe other e d = Prim.cc

pub made_exactly : (words : List (List ℕ)) (before after : Outside) (s : Status) → Prints words before after s → MadeExactly words s
made_exactly words before after s (Prints.whole text a w) recipe named = inr (inr (of a))
  where
    of : Answered words before.sides.shelf.files after.sides.far.loaded after.sides.far.exchanges s text → IsMadeDue recipe s
    of (Answered.usage e is t) = absurd (Prim.cc)
    of (Answered.cut how name e c) = absurd (Prim.cc)
    of (Answered.ran inputs in_way e c) = absurd (Prim.cc)
    of (Answered.made other e c) = subst (λ (r : Recipe). IsMadeDue r s) (one_recipe (command_of words) other recipe e named) (made_due after.sides.far.loaded after.sides.far.exchanges s text other c)
    of (Answered.verified name script_name transcript_name e c) = absurd (Prim.cc)
    of (Answered.texts names script_name e c) = absurd (Prim.cc)
made_exactly words before after s (Prints.cut due text is a c) recipe named = inl is
made_exactly words before after s (Prints.nothing is same) recipe named = inr (inl is)

-- ---- where nothing outside fails

module _ (words : List (List ℕ)) (before after : Outside) (s : Status) (cause : ReadCause before.sides.shelf after.sides.shelf s) (wrote : WriteCause words before after s) (rests : RestsHere before after) where
  no_read_fault : s ≡ status.ReadFault → ⊥
  no_read_fault is = rests.reads (subst (ReadCause before.sides.shelf after.sides.shelf) is cause)

  cut_ends : (f : List ℕ → Option (List ℕ)) (how : Cutting) (name : List ℕ) → command_of words ≡ Some (Cut how name) → Rests before.sides.shelf.unwritten after.sides.shelf.unwritten → IsDueOrFault (IsDueFor (command_of words) f s) s → (s ≡ status.OutOfMemory) ⊎ IsCutDue (f name) s
  cut_ends f how name e shelf_rest exact = of exact
    where
      by_cause : (k : Cutting) → Rose before.out.faults after.out.faults ⊎ CutCause k before.sides.shelf.unwritten after.sides.shelf.unwritten → ⊥
      by_cause k (inl r) = rests.writes r
      by_cause cutting.Split (inr r) = shelf_rest r
      by_cause cutting.Report (inr r) = r

      of : IsDueOrFault (IsDueFor (command_of words) f s) s → (s ≡ status.OutOfMemory) ⊎ IsCutDue (f name) s
      of (inl is) = absurd (no_read_fault is)
      of (inr (inl is)) = absurd (by_cause how (subst (λ (c : Option Task). Rose before.out.faults after.out.faults ⊎ WroteCause c before.sides.shelf.unwritten after.sides.shelf.unwritten) e (wrote is)))
      of (inr (inr (inl is))) = inl is
      of (inr (inr (inr due))) = inr (subst (λ (c : Option Task). IsDueFor c f s) e due)

  whole_ends : (f : List ℕ → Option (List ℕ)) (source_name script_name : List ℕ) (manner : Manner) → command_of words ≡ Some (Run (OfFiles source_name script_name) (way.Whole manner)) → IsDueOrFault (IsDueFor (command_of words) f s) s
      → (s ≡ status.OutOfMemory) ⊎ IsWholeDue manner (f source_name) (f script_name) s
  whole_ends f source_name script_name manner e exact = of exact
    where
      by_cause : Rose before.out.faults after.out.faults ⊎ ⊥ → ⊥
      by_cause (inl r) = rests.writes r
      by_cause (inr none) = none

      of : IsDueOrFault (IsDueFor (command_of words) f s) s → (s ≡ status.OutOfMemory) ⊎ IsWholeDue manner (f source_name) (f script_name) s
      of (inl is) = absurd (no_read_fault is)
      of (inr (inl is)) = absurd (by_cause (subst (λ (c : Option Task). Rose before.out.faults after.out.faults ⊎ WroteCause c before.sides.shelf.unwritten after.sides.shelf.unwritten) e (wrote is)))
      of (inr (inr (inl is))) = inl is
      of (inr (inr (inr due))) = inr (subst (λ (c : Option Task). IsDueFor c f s) e due)

-- of what holds where the files are told
told_so : (files : Files) (P Q : (List ℕ → Option (List ℕ)) → Type 0) → ((f : List ℕ → Option (List ℕ)) → P f → Q f) → IfSome files P → IfSome files Q
told_so None P Q go h = tt
told_so (Some f) P Q go h = go f h

pub cut_completes : (words : List (List ℕ)) (before after : Outside) (s : Status) → IsExact words before.sides.shelf.files s → ReadCause before.sides.shelf after.sides.shelf s → WriteCause words before after s → CutCompletes words before after s
cut_completes words before after s exact cause wrote rests shelf_rest how name e =
    told_so before.sides.shelf.files (λ f. IsDueOrFault (IsDueFor (command_of words) f s) s) (λ f. (s ≡ status.OutOfMemory) ⊎ IsCutDue (f name) s) (λ f due. cut_ends words before after s cause wrote rests f how name e shelf_rest due) exact

pub whole_completes : (words : List (List ℕ)) (before after : Outside) (s : Status) → IsExact words before.sides.shelf.files s → ReadCause before.sides.shelf after.sides.shelf s → WriteCause words before after s → WholeCompletes words before after s
whole_completes words before after s exact cause wrote rests source_name script_name manner e =
    told_so before.sides.shelf.files (λ f. IsDueOrFault (IsDueFor (command_of words) f s) s) (λ f. (s ≡ status.OutOfMemory) ⊎ IsWholeDue manner (f source_name) (f script_name) s) (λ f due. whole_ends words before after s cause wrote rests f source_name script_name manner e due) exact
