-- What is done where a script is run over two halves, from their texts, is what is due for it, and what is meant.
use Rattle.std.proofs.Common.{◌≡◌, ◌≢◌, ℕ, ◌<◌, ◌⊎◌, inl, inr, List, length, Option, Some, None, refl, sym, ap, ◌∙◌, subst, arith}
use Rattle.std.specs.Prelude.{IsSomeAnd}
use Rattle.mdr_core.specs.declared.program.Program.{Program}
use Rattle.mdr_bound.specs.declared.bound.Bound.{Bound}
use Rattle.mdr_cut.specs.declared.texts.Texts.{Texts}
use Rattle.mdr_cut.specs.Cuts.{AreTexts, IsPlanOf}
use Rattle.mdr_due.specs.declared.status.Status.{Status}
use Rattle.mdr_due.specs.declared.status.Status.TheVariants as status
use Rattle.mdr_due.specs.Reads.{Files, longest_script}
use Rattle.mdr_halves.specs.Joins.{AreTextsOf}
use Rattle.mdr_halves.specs.Laws.{AreSame}
use Rattle.mdr_halves.proofs.Placing.{texts_moved}
use Rattle.mdr_halves.proofs.Refusing.{refused_are_none, texts_of_one}
use Rattle.mdr_top.specs.HalvesMeans.{HalvesMeanBy}
use Rattle.mdr_top.specs.Names.{TextNames}
use Rattle.mdr_top.specs.Reads.{AreRead, NoTexts, longest_text}
use Rattle.mdr_top.specs.HalvesRuns.{HalvesRuns}
use Rattle.mdr_top.specs.Sources.{IsSourceIn, NoSourceIn}
use Rattle.mdr_outside.specs.Calls.{ShelfCall, Read, and_then}
use Rattle.mdr_outside.specs.declared.far.Exchange.{Exchange}
use Rattle.mdr_outside.specs.declared.far.Loaded.{Loaded}
use Rattle.mdr_outside.specs.declared.shelf.ReadAnswer.TheVariants as reads
use Rattle.mdr_outside.specs.Shelf.{ReadsFrom}
use Rattle.mdr_outside.specs.Sides.{FarSide}
use Rattle.mdr_top.specs.Scripts.{NoScript, NoScriptOf, HasScript}
use Rattle.mdr_source.specs.declared.outcome.Source.{Source}
use Rattle.mdr_top.specs.Reports.{Ran}
use Rattle.mdr_top.specs.SplitRuns.{SplitRunsOver}
use Rattle.mdr_top.specs.Answers.{Unread, HoldTexts, IsTaken, AreTaken, Untaken, UntakenTexts, ScriptAnswered, SplitDue, TextsAnswered, Answered, Prints}
use Rattle.mdr_top.specs.declared.words.Way.{Way}
use Rattle.mdr_top.specs.declared.words.Way.TheVariants as way
use Rattle.mdr_top.specs.Flags.{with_words}
use Rattle.mdr_top.specs.Headline.{AreTold}
use Rattle.mdr_top.specs.Outside.{Outside}
use Rattle.mdr_top.specs.Splits.{IsOfRun}
use Rattle.mdr_top.specs.Texts.{TextsMeanBy, AreSplitFrom, split_words, PrintsAsSplit}
use Rattle.mdr_top.specs.Words.{OfFiles, Inputs, Task, Cut, Run, RunTexts, Generate, Verify, texts_of, texts_command, command_of, texts_manner}
use Rattle.mdr_top.specs.Writing.{IsWritten}
use Rattle.mdr_top.proofs.CutLaws.{unread_so}
use Rattle.mdr_top.proofs.SplitLaws.{run_status}
use Rattle.mdr_top.proofs.Statuses.{HoldsSourceless, unread_status, answered_status}

-- ---- words

pub texts_named : (words : List (List ℕ)) (names : TextNames) (script_name : List ℕ) → command_of words ≡ texts_command words → Some (names, script_name) ≡ texts_of words → command_of words ≡ Some (RunTexts names script_name)
texts_named words names script_name e f = e ∙ ap (λ (t : Option (TextNames × List ℕ)). texts_task t) (sym f)
  where
    texts_task : Option (TextNames × List ℕ) → Option Task
    texts_task None = None
    texts_task (Some t) = Some (RunTexts t.0 t.1)

pub texts_no_run : (command : Option Task) (names : TextNames) (script_name : List ℕ) (inputs : Inputs) (in_way : Way) → command ≡ Some (RunTexts names script_name) → command ≡ Some (Run inputs in_way) → ⊥
texts_no_run command names script_name inputs in_way e f = Prim.cc

pub texts_unnamed : (words : List (List ℕ)) → command_of words ≡ texts_command words → None ≡ texts_of words → command_of words ≡ None
texts_unnamed words e f = e ∙ ap (λ (t : Option (TextNames × List ℕ)). texts_task t) (sym f)
  where
    texts_task : Option (TextNames × List ℕ) → Option Task
    texts_task None = None
    texts_task (Some t) = Some (RunTexts t.0 t.1)

-- ---- what is due

pub hold : (files : Files) (names : TextNames) (old new : List ShelfCall) (texts : Texts) → AreRead files names old new texts → HoldTexts files names texts
hold files names old new texts r = record { kernel_read = r.kernel_read.told; user_read = r.user_read.told; plan_read = r.plan_read.told }

pub taken : (files : Files) (names : TextNames) (old new : List ShelfCall) (source : Source) → IsSourceIn files names old new source → AreTaken files names source
taken files names old new source i = record { texts = i.texts; held = hold files names old new i.texts i.read; has = i.has }

untaken : (files : Files) (names : TextNames) (old new : List ShelfCall) (s : Status) (text : List ℕ) → NoSourceIn files names old new s text → UntakenTexts files names s text
untaken files names old new s text (NoSourceIn.unread (NoTexts.no_kernel u)) = UntakenTexts.no_kernel (unread_so files names.kernel longest_text old new s text u)
untaken files names old new s text (NoSourceIn.unread (NoTexts.no_user kernel first r u)) = UntakenTexts.no_user kernel r.told (unread_so files names.user longest_text first new s text u)
untaken files names old new s text (NoSourceIn.unread (NoTexts.no_plan kernel user first second r q u)) = UntakenTexts.no_plan kernel user r.told q.told (unread_so files names.plan longest_text second new s text u)
untaken files names old new s text (NoSourceIn.refused texts r n) = UntakenTexts.refused texts (hold files names old new texts r) n

pub texts_so : (files : Files) (names : TextNames) (script_name : List ℕ) (old new : List ShelfCall) (far far' : FarSide) (s : Status) (text : List ℕ) → HalvesRuns files names script_name texts_manner old new far far' s text → TextsAnswered names script_name files far'.loaded far'.exchanges s text
texts_so files names script_name old new far far' s text (HalvesRuns.no_source n f) = ScriptAnswered.no_source (untaken files names old new s text n)
texts_so files names script_name old new far far' s text (HalvesRuns.sourced source between i (SplitRunsOver.no_script (NoScriptOf.unread u) f)) =
    ScriptAnswered.script_unread source (taken files names old between source i) (unread_so files script_name longest_script between new s text u)
texts_so files names script_name old new far far' s text (HalvesRuns.sourced source between i (SplitRunsOver.no_script (NoScriptOf.refused lines told none) f)) =
    ScriptAnswered.script_refused source lines (taken files names old between source i) told.told none
texts_so files names script_name old new far far' s text (HalvesRuns.sourced source between i (SplitRunsOver.ran script given run)) =
    ScriptAnswered.ran source given.bytes script (taken files names old between source i) given.read.told given.has
    (record { plan = run.run.plan; texts = run.run.texts; cut = run.run.cut; report = run.report; ran = run.run.ran; shown = run.shown })

-- ---- statuses

module _ (P : Status → Type 0) (holds : HoldsSourceless P) (refused : P status.HalvesRefused) (files : Files) (names : TextNames) (s : Status) (text : List ℕ) where
  untaken_status : UntakenTexts files names s text → P s
  untaken_status (UntakenTexts.no_kernel u) = unread_status P holds files s text names.kernel longest_text u
  untaken_status (UntakenTexts.no_user kernel r u) = unread_status P holds files s text names.user longest_text u
  untaken_status (UntakenTexts.no_plan kernel user r q u) = unread_status P holds files s text names.plan longest_text u
  untaken_status (UntakenTexts.refused texts h n) = subst P (sym n.status_is) refused

abbrev IsElse : Status → Type 0
IsElse s = s ≢ status.WriteFault

else_sourceless : HoldsSourceless IsElse
else_sourceless = record { missing = λ e. Prim.cc; long = λ e. Prim.cc; failed = λ e. Prim.cc; refused = λ e. Prim.cc }

pub texts_unwritten : (files : Files) (names : TextNames) (script_name : List ℕ) (old new : List ShelfCall) (far far' : FarSide) (s : Status) (text : List ℕ) → HalvesRuns files names script_name texts_manner old new far far' s text → s ≢ status.WriteFault
texts_unwritten files names script_name old new far far' s text runs =
    answered_status IsElse else_sourceless files s text (UntakenTexts files names) (AreTaken files names) script_name (SplitDue texts_manner far'.loaded far'.exchanges s text) (untaken_status IsElse else_sourceless (λ e. Prim.cc) files names s text) (λ e. Prim.cc)
    (λ source script due. λ e. subst IsOfRun e (run_status source.program due.plan due.texts script texts_manner.ticks far'.loaded far'.exchanges s due.report due.ran))
    (texts_so files names script_name old new far far' s text runs)

-- ---- what is meant

module _ (words : List (List ℕ)) (before after : Outside) (s : Status) (text : List ℕ) (names : TextNames) (script_name : List ℕ) (e : command_of words ≡ Some (RunTexts names script_name)) (adds : IsWritten before.out after.out text) where
  pub texts_mean_by : HalvesMeanBy before.sides.shelf.files names script_name texts_manner before.sides.shelf.calls after.sides.shelf.calls after.sides.far.loaded after.sides.far.exchanges s text → TextsMeanBy words before after s
  unfolding taken
  texts_mean_by m = record {
    source = m.source;
    script = m.script;
    accepted = record {
      names = names;
      script_name = script_name;
      command = e;
      taken = taken before.sides.shelf.files names before.sides.shelf.calls m.between m.source m.source_is;
      lines = m.script_is.bytes;
      script_read = m.script_is.read.told;
      bound = m.script_is.has;
    };
    read = m.script_is.read.called ∙ ap (λ (xs : List ShelfCall). and_then xs (Read script_name longest_script (reads.Ok m.script_is.bytes)))
        (m.source_is.read.plan_read.called ∙ ap (λ (xs : List ShelfCall). and_then xs (Read names.plan longest_text (reads.Ok m.source_is.texts.plan)))
        (m.source_is.read.user_read.called ∙ ap (λ (xs : List ShelfCall). and_then xs (Read names.user longest_text (reads.Ok m.source_is.texts.user))) m.source_is.read.kernel_read.called));
    plan = m.plan;
    cut = m.cut;
    held = m.held;
    text = m.report;
    printed = subst (IsWritten before.out after.out) m.shown adds;
    meaning = m.meaning;
    same = m.same;
  }

-- ---- the run over the source that is cut into the texts

some_same : {X : Type 0} (o : Option X) (x y : X) → o ≡ Some x → o ≡ Some y → x ≡ y
some_same o x y e f = Prim.cc

not_some : {X : Type 0} (o : Option X) (x : X) → o ≡ Some x → o ≡ None → ⊥
not_some o x e f = Prim.cc

split_named : (source_name script_name : List ℕ) → command_of (split_words source_name script_name) ≡ Some (Run (OfFiles source_name script_name) (way.Split texts_manner))
unfolding with_words
split_named source_name script_name = refl

module _ (f : List ℕ → Option (List ℕ)) (name : List ℕ) (limit : ℕ) (bytes : List ℕ) (there : ReadsFrom (Some f) name limit (reads.Ok bytes)) (s : Status) (text : List ℕ) where
  -- a file that is there and fits is read, unless the read fails
  only_failed : Unread (Some f) name limit s text → s ≡ status.ReadFault
  only_failed (Unread.missing r e t) = absurd (not_some (f name) bytes there.0 r)
  only_failed (Unread.long r e t) = absurd (not_long (f name) there.0 r)
    where
      not_long : (o : Option (List ℕ)) → o ≡ Some bytes → IsSomeAnd o (λ b. limit < length b) → ⊥
      not_long None e h = elim h [ ]
      not_long (Some b) e h = let same : b ≡ bytes = some_same (Some b) b bytes refl e in let fits = there.1 in let long = subst (λ (x : List ℕ). limit < length x) same h in omega (arith, fits, long)
  only_failed (Unread.failed e t) = e

  same_text : (other : List ℕ) → ReadsFrom (Some f) name limit (reads.Ok other) → other ≡ bytes
  same_text other r = some_same (f name) other bytes r.0 there.0

same_texts : (a b : Texts) → a.kernel ≡ b.kernel → a.user ≡ b.user → a.plan ≡ b.plan → a ≡ b
same_texts a b k u p = λ i. record { kernel = k i; user = u i; plan = p i }

module _ (f : List ℕ → Option (List ℕ)) (names : TextNames) (source_name script_name : List ℕ) (split : AreSplitFrom (Some f) source_name names) (loaded : Option Loaded) (es : List Exchange) (s : Status) (text : List ℕ) where
  one_held : (texts : Texts) → HoldTexts (Some f) names texts → texts ≡ split.texts
  one_held texts h =
      same_texts texts split.texts (same_text f names.kernel longest_text split.texts.kernel split.held.kernel_read s text texts.kernel h.kernel_read) (same_text f names.user longest_text split.texts.user split.held.user_read s text texts.user h.user_read)
      (same_text f names.plan longest_text split.texts.plan split.held.plan_read s text texts.plan h.plan_read)

  are_of : AreTextsOf split.texts split.source
  are_of = record { bytes = split.bytes; comes = split.has.comes; are = split.are }

  is_taken : IsTaken (Some f) source_name split.source
  is_taken = record { bytes = split.bytes; read = split.read; has = split.has }

  -- no text is missing, and none is refused
  untaken_fails : UntakenTexts (Some f) names s text → s ≡ status.ReadFault
  untaken_fails (UntakenTexts.no_kernel u) = only_failed f names.kernel longest_text split.texts.kernel split.held.kernel_read s text u
  untaken_fails (UntakenTexts.no_user kernel r u) = only_failed f names.user longest_text split.texts.user split.held.user_read s text u
  untaken_fails (UntakenTexts.no_plan kernel user r q u) = only_failed f names.plan longest_text split.texts.plan split.held.plan_read s text u
  untaken_fails (UntakenTexts.refused texts h n) = absurd (refused_are_none texts n.mismatch split.source n.come (subst (λ (t : Texts). AreTextsOf t split.source) (sym (one_held texts h)) are_of))

  module _ (source : Source) (taken' : AreTaken (Some f) names source) where
    one : AreSame source split.source
    one = texts_of_one taken'.texts source split.source taken'.has.are (subst (λ (t : Texts). AreTextsOf t split.source) (sym (one_held taken'.texts taken'.held)) are_of)

    due_moved : (script : Bound) → SplitDue texts_manner loaded es s text source script → SplitDue texts_manner loaded es s text split.source script
    due_moved script due = record {
      plan = due.plan;
      texts = due.texts;
      cut = record {
        plan_is = subst (λ (p : Program). IsPlanOf p due.plan) one.programs due.cut.plan_is;
        are_texts = texts_moved source.tree split.source.tree split.source.program due.texts one.trees (subst (λ (p : Program). AreTexts source.tree p due.texts) one.programs due.cut.are_texts);
      };
      report = due.report;
      ran = subst (λ (p : Program). Ran p due.plan due.texts script texts_manner.ticks loaded es s due.report) one.programs due.ran;
      shown = due.shown;
    }

  abbrev SplitAnswered : Type 0
  SplitAnswered = ScriptAnswered (Some f) (Untaken (Some f) source_name) (IsTaken (Some f) source_name) script_name (SplitDue texts_manner loaded es s text) s text

  answered_as_split : TextsAnswered names script_name (Some f) loaded es s text → (s ≡ status.ReadFault) ⊎ SplitAnswered
  answered_as_split (ScriptAnswered.no_source u) = inl (untaken_fails u)
  answered_as_split (ScriptAnswered.script_unread source t u) = inr (ScriptAnswered.script_unread split.source is_taken u)
  answered_as_split (ScriptAnswered.script_refused source lines t r n) =
      inr (ScriptAnswered.script_refused split.source lines is_taken r (subst (λ (p : Program). NoScript p lines s text) (one source t).programs n))
  answered_as_split (ScriptAnswered.ran source lines script t r b due) =
      inr (ScriptAnswered.ran split.source lines script is_taken r (subst (λ (p : Program). HasScript p lines script) (one source t).programs b) (due_moved source t script due))

module _ (words : List (List ℕ)) (before after : Outside) (s : Status) (names : TextNames) (source_name script_name : List ℕ) (e : command_of words ≡ Some (RunTexts names script_name)) (f : List ℕ → Option (List ℕ)) (told : before.sides.shelf.files ≡ Some f) (split : AreSplitFrom (Some f) source_name names) where
  abbrev AsSplit : Type 0
  AsSplit = (s ≡ status.ReadFault) ⊎ ((s ≡ status.WriteFault) ⊎ Prints (split_words source_name script_name) before after s)

  same_task : (names' : TextNames) (script' : List ℕ) → command_of words ≡ Some (RunTexts names' script') → RunTexts names' script' ≡ RunTexts names script_name
  same_task names' script' e' = some_same (command_of words) (RunTexts names' script') (RunTexts names script_name) e' e

  abbrev answered_for : Task → List ℕ → Type 0
  answered_for (Cut how name) text = Unit {0}
  answered_for (Run inputs in_way) text = Unit {0}
  answered_for (Generate recipe) text = Unit {0}
  answered_for (Verify name other transcript_name) text = Unit {0}
  answered_for (RunTexts names' script') text = TextsAnswered names' script' (Some f) after.sides.far.loaded after.sides.far.exchanges s text

  whole_as_split : (text : List ℕ) → IsWritten before.out after.out text → TextsAnswered names script_name (Some f) after.sides.far.loaded after.sides.far.exchanges s text → AsSplit
  whole_as_split text w a = of (answered_as_split f names source_name script_name split after.sides.far.loaded after.sides.far.exchanges s text a)
    where
      of : (s ≡ status.ReadFault) ⊎ SplitAnswered f names source_name script_name split after.sides.far.loaded after.sides.far.exchanges s text → AsSplit
      of (inl is) = inl is
      of (inr b) = inr (inr (Prints.whole text (Answered.ran (OfFiles source_name script_name) (way.Split texts_manner) (split_named source_name script_name) (subst (λ (files : Files). ScriptAnswered files (Untaken files source_name) (IsTaken files source_name) script_name (SplitDue texts_manner after.sides.far.loaded after.sides.far.exchanges s text) s text) (sym told) b)) w))

  as_split : Prints words before after s → AsSplit
  as_split (Prints.whole text (Answered.usage n is t) w) = absurd (not_some (command_of words) (RunTexts names script_name) e n)
  as_split (Prints.whole text (Answered.cut how name n c) w) = absurd (Prim.cc)
  as_split (Prints.whole text (Answered.ran inputs in_way n c) w) = absurd (texts_no_run (command_of words) names script_name inputs in_way e n)
  as_split (Prints.whole text (Answered.made recipe n c) w) = absurd (Prim.cc)
  as_split (Prints.whole text (Answered.verified name other transcript_name n c) w) = absurd (Prim.cc)
  as_split (Prints.whole text (Answered.texts names' script' e' a) w) =
      whole_as_split text w (subst (λ (t : Task). answered_for t text) (same_task names' script' e') (subst (λ (files : Files). TextsAnswered names' script' files after.sides.far.loaded after.sides.far.exchanges s text) told a))
  as_split (Prints.cut due text is a c) = inr (inl is)
  as_split (Prints.nothing is same) = inr (inr (Prints.nothing is same))

pub prints_as_split : (words : List (List ℕ)) (before after : Outside) (s : Status) → Prints words before after s → PrintsAsSplit words before after s
prints_as_split words before after s p are names source_name script_name e split = of before.sides.shelf.files refl are split
  where
    of : (files : Files) → before.sides.shelf.files ≡ files → AreTold files → AreSplitFrom files source_name names → (s ≡ status.ReadFault) ⊎ ((s ≡ status.WriteFault) ⊎ Prints (split_words source_name script_name) before after s)
    of None told none split' = elim none [ ]
    of (Some f) told is split' = as_split words before after s names source_name script_name e f told split' p
