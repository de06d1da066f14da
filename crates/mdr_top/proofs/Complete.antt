-- Where nothing outside fails, what is accepted runs to its end.
use Rattle.std.proofs.Common.{◌≡◌, ℕ, ◌<◌, ◌≤◌, ◌⊎◌, inl, inr, Bool, List, [], length, Option, Some, None, Result, Ok, Err, refl, sym, ap, ◌∙◌, subst, arith}
use Rattle.std.proofs.lemmas.Bool.{le-ltb}
use Rattle.mdr_due.specs.Statuses.{ReadCause}
use Rattle.mdr_due.specs.declared.status.Status.{Status}
use Rattle.mdr_due.specs.declared.status.Status.TheVariants as status
use Rattle.mdr_due.specs.Reads.{Files, longest_source, longest_script}
use Rattle.mdr_outside.specs.Count.{Rose}
use Rattle.mdr_top.specs.Scripts.{script_for}
use Rattle.mdr_top.proofs.Stages.{outcome_own}
use Rattle.mdr_bound.specs.declared.bound.Bound.{Bound}
use Rattle.mdr_script.specs.declared.script_error.ScriptKind.{ScriptKind}
use Rattle.mdr_source.specs.declared.outcome.Source.{Source}
use Rattle.mdr_source.specs.declared.refusal.Refusal.{Refusal}
use Rattle.mdr_source.specs.Sources.{Comes}
use Rattle.mdr_source.proofs.OneThing.{one_thing}
use Rattle.mdr_top.specs.declared.split_manner.SplitManner.{SplitManner}
use Rattle.mdr_top.specs.Means.{while_watched}
use Rattle.mdr_top.specs.Comes.{IsUntakenDue, IsBoundDue, IsSizedDue, IsScriptDue, IsRunDue, IsFileDue, IsMadeDue, IsDueFor, IsDueOrFault, IsExact, MadeExactly}
use Rattle.mdr_top.specs.Cuts.{WroteCause, WriteCause}
use Rattle.mdr_top.specs.Accepted.{AreAccepted, over_two_halves}
use Rattle.mdr_top.specs.Headline.{MeansBy, Means, MeansWhereHonest, Rests, RestsHere, EndsAsMeant, EndsWhereAccepted, Completes}
use Rattle.mdr_top.specs.Made.{MadeCompletes, MadeMeans, MadeMeansBy}
use Rattle.mdr_top.specs.Outside.{Outside}
use Rattle.mdr_top.specs.Splits.{IsOfRun}
use Rattle.mdr_top.specs.declared.words.Way.{Way}
use Rattle.mdr_top.specs.declared.words.Way.TheVariants as way
use Rattle.mdr_top.specs.Words.{Inputs, OfFiles, Task, Cut, Run, Generate, Verify, command_of, RunTexts}

-- ---- answers exclude each other

some_same : {X : Type 0} (o : Option X) (x y : X) → o ≡ Some x → o ≡ Some y → x ≡ y
some_same o x y e f = Prim.cc

ok_same : {X Y : Type 0} (r : Result X Y) (x y : X) → r ≡ Ok x → r ≡ Ok y → x ≡ y
ok_same r x y e f = Prim.cc

not_some : {X : Type 0} (o : Option X) (x : X) → o ≡ Some x → o ≡ None → ⊥
not_some o x e f = Prim.cc

ok_is : {a b : Source} → ◌≡◌ {A = Result Source Refusal} (Ok a) (Ok b) → a ≡ b
ok_is e = Prim.cc

not_err : {a : Source} {e : Refusal} → ◌≡◌ {A = Result Source Refusal} (Ok a) (Err e) → ⊥
not_err q = Prim.cc

-- bytes that come to a source come to no other, and aren't refused
one_source : (bytes other : List ℕ) (a b : Source) → other ≡ bytes → Comes bytes (Ok a) → Comes other (Ok b) → b ≡ a
one_source bytes other a b same x y = ok_is (one_thing bytes (Ok b) (Ok a) (subst (λ (bs : List ℕ). Comes bs (Ok b)) same y) x)

no_refusal : (bytes other : List ℕ) (a : Source) (e : Refusal) → other ≡ bytes → Comes bytes (Ok a) → Comes other (Err e) → ⊥
no_refusal bytes other a e same x y = not_err (one_thing bytes (Ok a) (Err e) x (subst (λ (bs : List ℕ). Comes bs (Err e)) same y))

too_long : (limit : ℕ) (bytes other : List ℕ) → other ≡ bytes → length bytes ≤ limit → limit < length other → ⊥
too_long limit bytes other same le long = let long' : limit < length bytes = subst (λ (bs : List ℕ). limit < length bs) same long in omega (arith, le, long')

-- the names in a task, and its budget
abbrev names_in : Task → List ℕ × List ℕ
names_in (Cut how name) = (name, name)
names_in (Run (OfFiles source_name script_name) in_way) = (source_name, script_name)
names_in (Generate recipe) = ([], [])
names_in (Verify source_name script_name transcript_name) = (source_name, script_name)
names_in (RunTexts names script_name) = (names.kernel, script_name)

abbrev budget_in : Way → ℕ
budget_in (way.Whole manner) = manner.ticks
budget_in (way.Split manner) = manner.ticks

abbrev ticks_in : Task → ℕ
ticks_in (Cut how name) = 0
ticks_in (Run inputs in_way) = budget_in in_way
ticks_in (Generate recipe) = 0
ticks_in (Verify source_name script_name transcript_name) = 0
ticks_in (RunTexts names script_name) = 0

-- of a run, a write fault is the output's
of_output : (words : List (List ℕ)) (before after : Outside) (s : Status) (inputs : Inputs) (in_way : Way) → command_of words ≡ Some (Run inputs in_way) → WriteCause words before after s → s ≡ status.WriteFault → Rose before.out.faults after.out.faults
of_output words before after s inputs in_way e cause is = of (subst (λ (c : Option Task). Rose before.out.faults after.out.faults ⊎ WroteCause c before.sides.shelf.unwritten after.sides.shelf.unwritten) e (cause is))
  where
    of : Rose before.out.faults after.out.faults ⊎ ⊥ → Rose before.out.faults after.out.faults
    of (inl r) = r
    of (inr none) = absurd none

-- ---- words and files name one source, one script and one budget

record AreSame (source other : Source) (script script' : Bound) (ticks ticks' : ℕ) : Type 0 where
  sources : other ≡ source
  scripts : script' ≡ script
  budgets : ticks' ≡ ticks

module _ (words : List (List ℕ)) (f : List ℕ → Option (List ℕ)) (source other : Source) (script script' : Bound) (manner manner' : SplitManner) (a : AreAccepted words (Some f) (over_two_halves manner) source script) (b : AreAccepted words (Some f) (over_two_halves manner') other script') where
  same_task : over_two_halves manner' b.source_name b.script_name ≡ over_two_halves manner a.source_name a.script_name
  same_task = some_same (command_of words) (over_two_halves manner' b.source_name b.script_name) (over_two_halves manner a.source_name a.script_name) b.command a.command

  same_bytes : b.bytes ≡ a.bytes
  same_bytes = some_same (f a.source_name) b.bytes a.bytes (sym (ap (λ (t : Task). f (names_in t).0) same_task) ∙ b.source_read.0) a.source_read.0

  same_lines : b.lines ≡ a.lines
  same_lines = some_same (f a.script_name) b.lines a.lines (sym (ap (λ (t : Task). f (names_in t).1) same_task) ∙ b.script_read.0) a.script_read.0

  same_source : other ≡ source
  same_source = one_source a.bytes b.bytes source other same_bytes a.compiled b.compiled

  are_same : AreSame source other script script' manner.ticks manner'.ticks
  are_same = record {
    sources = same_source;
    scripts = ok_same (script_for source.program a.lines) script' script (sym (λ i. script_for (same_source i).program (same_lines i)) ∙ b.bound) a.bound;
    budgets = ap ticks_in same_task;
  }

-- ---- what is accepted runs

-- a status that a run ends with
data Ended (s : Status) : Type 0 where
  itself : (s ≡ status.Done) ⊎ (s ≡ status.Stopped) → Ended s
  refused : s ≡ status.Marshal → Ended s
  failed : s ≡ status.FarFault → Ended s

ended : (s : Status) → IsOfRun s → Ended s
ended status.Done h = Ended.itself (inl refl)
ended status.Usage h = absurd h
ended status.SourceRefused h = absurd h
ended status.ScriptRefused h = absurd h
ended status.ReadFault h = absurd h
ended status.WriteFault h = absurd h
ended status.FarFault h = Ended.failed refl
ended status.Marshal h = Ended.refused refl
ended status.Stopped h = Ended.itself (inr refl)
ended status.OutOfMemory h = absurd h
ended status.Missing h = absurd h
ended status.TooLarge h = absurd h
ended status.HalvesRefused h = absurd h
ended status.NotVerified h = absurd h

module _ (words : List (List ℕ)) (f : List ℕ → Option (List ℕ)) (s : Status) (source : Source) (script : Bound) (manner : SplitManner) (a : AreAccepted words (Some f) (over_two_halves manner) source script) where
  script_runs : (other : Source) → other ≡ source → IsScriptDue other.program (λ bound. IsOfRun s) (f a.script_name) s → IsOfRun s
  script_runs other same due =
      subst (λ (given : Result Bound (ℕ × ScriptKind)). IsBoundDue (λ bound. IsOfRun s) given s) a.bound
      (subst (λ (long : Bool). IsSizedDue long (IsBoundDue (λ bound. IsOfRun s) (script_for source.program a.lines) s) s) (le-ltb longest_script (length a.lines) a.script_read.1)
      (subst (λ (o : Option (List ℕ)). IsScriptDue source.program (λ bound. IsOfRun s) o s) a.script_read.0
      (subst (λ (x : Source). IsScriptDue x.program (λ bound. IsOfRun s) (f a.script_name) s) same due)))

  none_untaken : IsUntakenDue (f a.source_name) s → ⊥
  none_untaken (IsUntakenDue.missing e is) = not_some (f a.source_name) a.bytes a.source_read.0 e
  none_untaken (IsUntakenDue.long bytes e long is) = too_long longest_source a.bytes bytes (some_same (f a.source_name) bytes a.bytes e a.source_read.0) a.source_read.1 long
  none_untaken (IsUntakenDue.refused bytes refusal e le comes is) = no_refusal a.bytes bytes source refusal (some_same (f a.source_name) bytes a.bytes e a.source_read.0) a.compiled comes

  source_runs : IsFileDue (λ program bound. IsOfRun s) (f a.source_name) (f a.script_name) s → IsOfRun s
  source_runs (IsRunDue.no_source u) = absurd (none_untaken u)
  source_runs (IsRunDue.accepted other h due) = script_runs other (one_source a.bytes h.bytes source other (some_same (f a.source_name) h.bytes a.bytes h.holds a.source_read.0) a.compiled h.comes) due

  -- and ends as is meant
  ends_as_meant : (before after : Outside) → before.sides.shelf.files ≡ Some f → MeansBy words before after s → EndsAsMeant source.program script manner.ticks s
  ends_as_meant before after told m =
      let accepted : AreAccepted words (Some f) (over_two_halves m.manner) m.source m.script = subst (λ (files : Files). AreAccepted words files (over_two_halves m.manner) m.source m.script) told m.accepted in
      let same = are_same words f source m.source script m.script manner m.manner a accepted in
      let ends : EndsAsMeant m.source.program m.script m.manner.ticks s = record {
        ends = record { outcome = m.same.outcome; is_outcome = m.same.is_outcome; status_is = m.same.status_is };
        own = outcome_own m.source.program m.script (while_watched m.manner.ticks) m.same.outcome m.same.is_outcome;
      } in
      subst (λ (n : ℕ). EndsAsMeant source.program script n s) same.budgets
      (subst (λ (b : Bound). EndsAsMeant source.program b m.manner.ticks s) same.scripts
      (subst (λ (x : Source). EndsAsMeant x.program m.script m.manner.ticks s) same.sources ends))

module _ (words : List (List ℕ)) (before after : Outside) (s : Status) (means : Means words before after s) (cause : ReadCause before.sides.shelf after.sides.shelf s) (wrote : WriteCause words before after s) (fails : s ≡ status.FarFault → Rose before.sides.far.faults after.sides.far.faults) (rests : RestsHere before after) (far_rest : Rests before.sides.far.faults after.sides.far.faults) where
  ends_told : (f : List ℕ → Option (List ℕ)) → before.sides.shelf.files ≡ Some f → (source : Source) (script : Bound) (manner : SplitManner) → AreAccepted words (Some f) (over_two_halves manner) source script → IsDueOrFault (IsDueFor (command_of words) f s) s
      → (s ≡ status.OutOfMemory) ⊎ EndsAsMeant source.program script manner.ticks s
  ends_told f told source script manner a exact = of exact
    where
      by_status : Ended s → (s ≡ status.OutOfMemory) ⊎ EndsAsMeant source.program script manner.ticks s
      by_status (Ended.itself is) = inr (ends_as_meant words f s source script manner a before after told (means.means a.source_name a.script_name manner a.command is))
      by_status (Ended.refused is) = absurd (means.never is)
      by_status (Ended.failed is) = absurd (far_rest (fails is))

      of : IsDueOrFault (IsDueFor (command_of words) f s) s → (s ≡ status.OutOfMemory) ⊎ EndsAsMeant source.program script manner.ticks s
      of (inl is) = absurd (rests.reads (subst (ReadCause before.sides.shelf after.sides.shelf) is cause))
      of (inr (inl is)) = absurd (rests.writes (of_output words before after s (OfFiles a.source_name a.script_name) (way.Split manner) a.command wrote is))
      of (inr (inr (inl is))) = inl is
      of (inr (inr (inr due))) = by_status (ended s (source_runs words f s source script manner a (subst (λ (c : Option Task). IsDueFor c f s) a.command due)))

  ends_so : (files : Files) → before.sides.shelf.files ≡ files → IsExact words files s → EndsWhereAccepted words files s
  ends_so None told exact source script manner are a = elim are [ ]
  ends_so (Some f) told exact source script manner are a = ends_told f told source script manner a exact

pub completes : (words : List (List ℕ)) (before after : Outside) (s : Status) → IsExact words before.sides.shelf.files s → MeansWhereHonest words before after s → ReadCause before.sides.shelf after.sides.shelf s → WriteCause words before after s
    → (s ≡ status.FarFault → Rose before.sides.far.faults after.sides.far.faults) → Completes words before after s
completes words before after s exact means cause wrote fails rests far_rest honest = ends_so words before after s (means honest) cause wrote fails rests far_rest before.sides.shelf.files refl exact

-- ---- a seed

pub made_completes : (words : List (List ℕ)) (before after : Outside) (s : Status) → MadeExactly words s → MadeMeans words before after s → MeansWhereHonest words before after s → WriteCause words before after s
    → (s ≡ status.FarFault → Rose before.sides.far.faults after.sides.far.faults) → MadeCompletes words before after s
made_completes words before after s exact made means wrote fails rests far_rest honest recipe named = of (exact recipe named)
  where
    by_status : Ended s → (s ≡ status.OutOfMemory) ⊎ MadeMeansBy words before after s
    by_status (Ended.itself is) = inr (made honest recipe named is)
    by_status (Ended.refused is) = absurd ((means honest).never is)
    by_status (Ended.failed is) = absurd (far_rest (fails is))

    by_cause : Rose before.out.faults after.out.faults ⊎ ⊥ → ⊥
    by_cause (inl r) = rests r
    by_cause (inr none) = none

    of : (s ≡ status.WriteFault) ⊎ ((s ≡ status.OutOfMemory) ⊎ IsMadeDue recipe s) → (s ≡ status.OutOfMemory) ⊎ MadeMeansBy words before after s
    of (inl is) = absurd (by_cause (subst (λ (c : Option Task). Rose before.out.faults after.out.faults ⊎ WroteCause c before.sides.shelf.unwritten after.sides.shelf.unwritten) named (wrote is)))
    of (inr (inl is)) = inl is
    of (inr (inr due)) = by_status (ended s due.ends)
