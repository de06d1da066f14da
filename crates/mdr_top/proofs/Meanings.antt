-- Over an honest far side a run is reported as what it means on one memory.
use Rattle.std.proofs.Common.{◌≡◌, ℕ, ◌+◌, ◌*◌, ◌≤◌, ◌⊎◌, inl, inr, List, length, Option, Some, Result, Ok, Err, refl, sym, ap, ◌∙◌, subst}
use Rattle.mdr_core.specs.declared.plan.Plan.{Plan}
use Rattle.mdr_core.specs.declared.program.Program.{Program}
use Rattle.mdr_cut.proofs.Determined.{plan_is_determined}
use Rattle.mdr_cut.specs.declared.texts.Texts.{Texts}
use Rattle.mdr_due.specs.declared.status.Status.{Status}
use Rattle.mdr_due.specs.declared.status.Status.TheVariants as status
use Rattle.mdr_due.specs.Reads.{Files, IsUnread}
use Rattle.mdr_exchanges.specs.Runs.{IsFarFault, run_over}
use Rattle.mdr_half.specs.Halves.{user_text}
use Rattle.mdr_half.specs.Plans.{plan_text}
use Rattle.mdr_honest.specs.Honest.{IsHonest, IsHonestLoad, IsHonestSince}
use Rattle.mdr_honest.specs.Loading.{IsCut, IsTaken, TextsOfSourcesAreTaken}
use Rattle.mdr_exchanges.specs.Meanings.{IsMeant}
use Rattle.mdr_honest.specs.Meanings.{HasTexts, RunIsMeaning}
use Rattle.mdr_honest.specs.Scripts.{IsScriptFor}
use Rattle.mdr_model.specs.declared.outcome.End.{End}
use Rattle.mdr_model.specs.declared.outcome.End.TheVariants as ends
use Rattle.mdr_model.specs.Law.{IsOwn}
use Rattle.mdr_outside.specs.Calls.{ShelfCall}
use Rattle.mdr_outside.specs.declared.far.Exchange.{Exchange}
use Rattle.mdr_outside.specs.declared.far.LoadAnswer.{LoadAnswer}
use Rattle.mdr_outside.specs.declared.far.LoadAnswer.TheVariants as loads
use Rattle.mdr_outside.specs.declared.far.Loaded.{Loaded}
use Rattle.mdr_outside.specs.declared.shelf.ReadAnswer.{ReadAnswer}
use Rattle.mdr_outside.specs.Far.{loaded_with}
use Rattle.mdr_outside.specs.Sides.{FarSide}
use Rattle.mdr_plain.specs.declared.outcome.Outcome.{Outcome}
use Rattle.mdr_plain.specs.World.{World}
use Rattle.mdr_top.specs.WholeRuns.{IsOutcome, IsRun, status_of}
use Rattle.mdr_top.specs.Scripts.{HasScript, NoScriptOf, bound_by}
use Rattle.mdr_bound.specs.declared.bound.Bound.{Bound}
use Rattle.mdr_script.specs.declared.script.Script.{Script}
use Rattle.mdr_script.specs.declared.script_error.ScriptKind.{ScriptKind}
use Rattle.mdr_script.specs.Scripts.{script_of}
use Rattle.mdr_slicer.specs.Slicing.{HasSource, NoSourceOf}
use Rattle.mdr_source.proofs.Whose.{come_source}
use Rattle.mdr_source.specs.declared.outcome.Source.{Source}
use Rattle.mdr_top.proofs.Steps.{nothing_end}
use Rattle.mdr_top.specs.CutInto.{IsCutInto}
use Rattle.mdr_top.specs.Layouts.{with_lines}
use Rattle.mdr_top.specs.declared.split_manner.SplitManner.{SplitManner}
use Rattle.mdr_top.specs.Means.{IsMeaning, SplitMeans, SplitRunsMean, meant, while_watched}
use Rattle.mdr_top.specs.Reports.{Began, Ran, RanTo, Reported, world_left}
use Rattle.mdr_top.specs.SplitRuns.{SplitRuns}
use Rattle.mdr_split.specs.AnyAnswers.{kernel_in}
use Rattle.mdr_watched.specs.Driver.{driver_of}
use Rattle.mdr_watched.specs.Watched.{watched}

-- ---- a source and its texts

pub is_cut : (bytes : List ℕ) (source : Source) (plan : Plan) (texts : Texts) → HasSource bytes source → IsCutInto source plan texts → IsCut bytes source plan
is_cut bytes source plan texts h c = record { source_is = come_source bytes source h.comes; plan_is = c.plan_is }

pub has_texts : (source : Source) (plan : Plan) (texts : Texts) (answer : LoadAnswer) → IsCutInto source plan texts → HasTexts source plan (loaded_with texts.user texts.plan answer)
has_texts source plan texts answer c =
    let same : c.are_texts.plan ≡ plan = plan_is_determined source.program c.are_texts.plan plan c.are_texts.is_plan c.plan_is in
    record {
      user_is = c.are_texts.user_is ∙ ap (λ (p : Plan). user_text p source.tree) same;
      plan_is = c.are_texts.plan_is ∙ ap (λ (p : Plan). plan_text source.program p) same;
    }

-- ---- a script

script_read : (program : Program) (bytes : List ℕ) (script : Bound) (r : Result Script (ℕ × ScriptKind)) → script_of bytes ≡ r → bound_by program r ≡ Ok script → IsScriptFor program bytes script
script_read program bytes script (Ok read) is bound = record { read = read; is_read = is; is_bound = bound }
script_read program bytes script (Err e) is bound = absurd (Prim.cc)

is_script : (program : Program) (bytes : List ℕ) (script : Bound) → HasScript program bytes script → IsScriptFor program bytes script
is_script program bytes script h = script_read program bytes script (script_of bytes) refl h

-- ---- ends

fails : (end : End) → IsFarFault end → status_of end ≡ status.FarFault
fails ends.Ok h = absurd h
fails (ends.Stop kind at) h = absurd h
fails (ends.Refused exchange cause number) h = absurd h
fails (ends.FarFault exchange) h = refl

pub own_never : (end : End) → IsOwn end → status_of end ≡ status.Marshal → ⊥
own_never ends.Ok own e = Prim.cc
own_never (ends.Stop kind at) own e = Prim.cc
own_never (ends.Refused exchange cause number) own e = own
own_never (ends.FarFault exchange) own e = own

-- ---- a run

module _ (law : RunIsMeaning) (taken : TextsOfSourcesAreTaken) (bytes lines : List ℕ) (source : Source) (plan : Plan) (texts : Texts) (script : Bound) (ticks : ℕ) (es : List Exchange) (h : HasSource bytes source) (b : HasScript source.program lines script) (c : IsCutInto source plan texts) where
  abbrev held_with : LoadAnswer → Loaded
  held_with answer = loaded_with texts.user texts.plan answer

  -- an honest far side doesn't refuse the texts
  texts_taken : (answer : LoadAnswer) → IsHonestSince (held_with answer) es → IsTaken answer
  texts_taken answer since =
      let t : HasTexts source plan (held_with answer) = has_texts source plan texts answer c in
      taken bytes source plan answer (is_cut bytes source plan texts h c)
      (subst (λ (u : List ℕ). IsHonestLoad u (plan_text source.program plan) answer) t.user_is
      (subst (λ (p : List ℕ). IsHonestLoad texts.user p answer) t.plan_is since.load))

  -- what a run shows is what is meant, or the far side failed
  pub outcome_means : (loaded : Option Loaded) (o : Outcome) → IsHonest loaded es → RanTo source.program plan texts script ticks loaded es o → IsFarFault o.end ⊎ IsMeant source.program plan script ticks es o
  outcome_means loaded o honest (RanTo.began is run) =
      law bytes lines source plan script ticks (held_with loads.Ok) es o (is_cut bytes source plan texts h c) (is_script source.program lines script b) (has_texts source plan texts loads.Ok c) (subst (λ (l : Option Loaded). IsHonest l es) is honest) run
  outcome_means loaded o honest (RanTo.refused cause is same) = absurd (texts_taken (loads.Refused cause) (subst (λ (l : Option Loaded). IsHonest l es) is honest))
  outcome_means loaded o honest (RanTo.failed is same) = inl (subst IsFarFault (sym (ap (λ (x : Outcome). x.end) same ∙ nothing_end source.program script ticks (ends.FarFault 0))) tt)

  -- what is reported is what is meant, and the run ends in the state in which the run on one memory ends
  record IsLeftSo (s : Status) (text : List ℕ) : Type 0 where
    meaning : IsMeaning source.program plan script ticks es s text
    world : (kernel_in (run_over (driver_of source.program plan) script ticks es).pending).world ≡ (watched source.program plan script ticks).world

  began_means : (s : Status) (text : List ℕ) → IsHonest (Some (held_with loads.Ok)) es → Began source.program plan script ticks es s text → (s ≡ status.FarFault) ⊎ IsLeftSo s text
  began_means s text honest g =
      of (law bytes lines source plan script ticks (held_with loads.Ok) es g.outcome (is_cut bytes source plan texts h c) (is_script source.program lines script b) (has_texts source plan texts loads.Ok c) honest g.run_is)
    where
      of : IsFarFault g.outcome.end ⊎ IsMeant source.program plan script ticks es g.outcome → (s ≡ status.FarFault) ⊎ IsLeftSo s text
      of (inl f) = inl (g.reported.status_is ∙ fails g.outcome.end f)
      of (inr m) = inr (record {
        meaning = record {
          reported = subst (λ (o : Outcome). Reported source.program o s text) m.outcome g.reported;
          own = subst (λ (o : Outcome). IsOwn o.end) m.outcome m.own;
          messages = subst (λ (o : Outcome). 2 * length es ≤ 8 * o.ticks + 6 * (watched source.program plan script ticks).world.kept.calls) m.outcome m.messages;
          fewer = λ nothing. subst (λ (o : Outcome). 2 * length es ≤ 4 * o.ticks + 6 * (watched source.program plan script ticks).world.kept.calls) m.outcome (m.fewer nothing);
        };
        world = m.world;
      })

  -- the far side failed, or it was loaded with the texts, what is reported is what is meant, and so is what is left
  pub record IsMeantSo (loaded : Option Loaded) (s : Status) (text : List ℕ) : Type 0 where
    pub held : loaded ≡ Some (held_with loads.Ok)
    pub meaning : IsMeaning source.program plan script ticks es s text
    pub world : world_left source.program plan script ticks loaded es ≡ (watched source.program plan script ticks).world

  pub ran_means : (loaded : Option Loaded) (s : Status) (text : List ℕ) → IsHonest loaded es → Ran source.program plan texts script ticks loaded es s text → (s ≡ status.FarFault) ⊎ IsMeantSo loaded s text
  ran_means loaded s text honest (Ran.began is g) = of (began_means s text (subst (λ (l : Option Loaded). IsHonest l es) is honest) g)
    where
      of : (s ≡ status.FarFault) ⊎ IsLeftSo s text → (s ≡ status.FarFault) ⊎ IsMeantSo loaded s text
      of (inl e) = inl e
      of (inr m) = inr (record { held = is; meaning = m.meaning; world = ap (λ (l : Option Loaded). world_left source.program plan script ticks l es) is ∙ m.world })
  ran_means loaded s text honest (Ran.refused cause is r) = absurd (texts_taken (loads.Refused cause) (subst (λ (l : Option Loaded). IsHonest l es) is honest))
  ran_means loaded s text honest (Ran.failed is r) = inl (r.status_is ∙ ap status_of (nothing_end source.program script ticks (ends.FarFault 0)))

-- what stands behind a report, by another name of the state
pub lines_so : (manner : SplitManner) (es : List Exchange) (report text : List ℕ) (w w' : World) → text ≡ with_lines manner es w report → w ≡ w' → text ≡ with_lines manner es w' report
lines_so manner es report text w w' shown same = shown ∙ ap (λ (x : World). with_lines manner es x report) same

-- what is meant is what the run on one memory is reported as
pub same_report : (source : Source) (plan : Plan) (texts : Texts) (script : Bound) (ticks : ℕ) (s : Status) (text : List ℕ) → IsCutInto source plan texts → Reported source.program (meant source.program plan script ticks) s text
    → IsRun source.program script (while_watched ticks) s text
same_report source plan texts script ticks s text c r = record {
  outcome = meant source.program plan script ticks;
  is_outcome = IsOutcome.watched_run refl plan c.plan_is refl;
  status_is = r.status_is;
  text_is = r.text_is;
}

-- ---- what is due

-- a status that tells of no run
abbrev pub IsEarly : Status → Type 0
IsEarly status.Done = ⊥
IsEarly status.Usage = Unit {0}
IsEarly status.SourceRefused = Unit {0}
IsEarly status.ScriptRefused = Unit {0}
IsEarly status.ReadFault = Unit {0}
IsEarly status.WriteFault = Unit {0}
IsEarly status.FarFault = Unit {0}
IsEarly status.Marshal = ⊥
IsEarly status.Stopped = ⊥
IsEarly status.OutOfMemory = Unit {0}
IsEarly status.Missing = Unit {0}
IsEarly status.TooLarge = Unit {0}
IsEarly status.HalvesRefused = Unit {0}
IsEarly status.NotVerified = Unit {0}

pub unread_early : (name : List ℕ) (answer : ReadAnswer) (s : Status) (text : List ℕ) → IsUnread name answer s text → IsEarly s
unread_early name answer s text (IsUnread.missing a e t) = subst IsEarly (sym e) tt
unread_early name answer s text (IsUnread.long a e t) = subst IsEarly (sym e) tt
unread_early name answer s text (IsUnread.failed a e t) = subst IsEarly (sym e) tt

no_source_early : (files : Files) (name : List ℕ) (old new : List ShelfCall) (s : Status) (text : List ℕ) → NoSourceOf files name old new s text → IsEarly s
no_source_early files name old new s text (NoSourceOf.unread u) = unread_early name u.answer s text u.why
no_source_early files name old new s text (NoSourceOf.refused bytes read n) = subst IsEarly (sym n.status_is) tt

pub no_script_early : (files : Files) (program : Program) (name : List ℕ) (old new : List ShelfCall) (s : Status) (text : List ℕ) → NoScriptOf files program name old new s text → IsEarly s
no_script_early files program name old new s text (NoScriptOf.unread u) = unread_early name u.answer s text u.why
no_script_early files program name old new s text (NoScriptOf.refused bytes read n) = subst IsEarly (sym n.status_is) tt

pub not_early : (s : Status) → IsEarly s → (s ≡ status.Done) ⊎ (s ≡ status.Stopped) → ⊥
not_early s early (inl e) = subst IsEarly e early
not_early s early (inr e) = subst IsEarly e early

module _ (files : Files) (source_name script_name : List ℕ) (manner : SplitManner) (old new : List ShelfCall) (far far' : FarSide) (s : Status) (text : List ℕ) where
  abbrev MeansIt : Type 0
  MeansIt = SplitMeans files source_name script_name manner old new far'.loaded far'.exchanges s text

  early_means : IsEarly s → MeansIt
  early_means early = record { never = λ e. subst IsEarly e early; means = λ is. absurd (not_early s early is) }

  runs_mean : RunIsMeaning → TextsOfSourcesAreTaken → SplitRuns files source_name script_name manner old new far far' s text → IsHonest far'.loaded far'.exchanges → MeansIt
  runs_mean law taken (SplitRuns.no_source none same) honest = early_means (no_source_early files source_name old new s text none)
  runs_mean law taken (SplitRuns.no_script source between read none same) honest = early_means (no_script_early files source.program script_name between new s text none)
  runs_mean law taken (SplitRuns.ran source script between read given r) honest =
      of (ran_means law taken read.bytes given.bytes source r.run.plan r.run.texts script manner.ticks far'.exchanges read.has given.has r.run.cut far'.loaded s r.report honest r.run.ran)
    where
      of : (s ≡ status.FarFault) ⊎ IsMeantSo law taken read.bytes given.bytes source r.run.plan r.run.texts script manner.ticks far'.exchanges read.has given.has r.run.cut far'.loaded s r.report → MeansIt
      of (inl e) = early_means (subst IsEarly (sym e) tt)
      of (inr m) = record {
        never = λ e. own_never (meant source.program r.run.plan script manner.ticks).end m.meaning.own (sym m.meaning.reported.status_is ∙ e);
        means = λ is. record {
          source = source;
          script = script;
          between = between;
          source_is = read;
          script_is = given;
          plan = r.run.plan;
          texts = r.run.texts;
          cut = r.run.cut;
          held = m.held;
          report = r.report;
          shown = lines_so manner far'.exchanges r.report text _ _ r.shown m.world;
          meaning = m.meaning;
          same = same_report source r.run.plan r.run.texts script manner.ticks s r.report r.run.cut m.meaning.reported;
        };
      }

pub split_runs_mean : RunIsMeaning → TextsOfSourcesAreTaken → SplitRunsMean
split_runs_mean law taken files source_name script_name manner old new far far' s text runs honest = runs_mean files source_name script_name manner old new far far' s text law taken runs honest
