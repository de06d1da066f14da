-- The stages of running a script over the halves of a source.
use Rattle.std.proofs.Common.{◌≡◌, ℕ, List, Option, Some, Result, Ok, Err, refl, sym, ap, ◌∙◌, subst}
use Rattle.std.specs.Prelude.{IfOk}
use Rattle.mdr_core.specs.declared.plan.Plan.{Plan}
use Rattle.mdr_core.specs.declared.program.Program.{Program}
use Rattle.mdr_core.specs.declared.refusal.RefuseKind.TheVariants as refusal
use Rattle.mdr_cut.specs.declared.texts.Texts.{Texts}
use Rattle.mdr_due.specs.declared.status.Status.{Status}
use Rattle.mdr_due.specs.declared.status.Status.TheVariants as status
use Rattle.mdr_due.specs.Reads.{Files, WasRead, longest_script}
use Rattle.mdr_due.specs.Statuses.{Counts, HasReadCause}
use Rattle.mdr_exchanges.specs.Runs.{IsFarFault, run_over}
use Rattle.mdr_meaning.specs.Bodies.{known_of}
use Rattle.mdr_model.specs.declared.outcome.End.{End}
use Rattle.mdr_model.specs.declared.outcome.End.TheVariants as ends
use Rattle.mdr_outside.specs.Calls.{ShelfCall}
use Rattle.mdr_outside.specs.declared.far.Exchange.{Exchange}
use Rattle.mdr_outside.specs.declared.far.LoadAnswer.{LoadAnswer}
use Rattle.mdr_outside.specs.declared.far.Loaded.{Loaded}
use Rattle.mdr_outside.specs.Far.{loaded_with}
use Rattle.mdr_outside.specs.Sides.{FarSide}
use Rattle.mdr_plain.specs.declared.outcome.Outcome.{Outcome}
use Rattle.mdr_plain.specs.Outcome.{outcome_of}
use Rattle.mdr_plain.specs.Scripts.{first_world}
use Rattle.mdr_region.specs.Layout.{places_of}
use Rattle.mdr_top.specs.WholeRuns.{status_of}
use Rattle.mdr_top.specs.Scripts.{IsScriptOf, NoScriptOf}
use Rattle.mdr_bound.specs.declared.bound.Bound.{Bound}
use Rattle.mdr_slicer.specs.Slicing.{IsSourceOf}
use Rattle.mdr_source.specs.declared.outcome.Source.{Source}
use Rattle.mdr_split.specs.AnyAnswers.{kernel_in}
use Rattle.mdr_top.specs.declared.split_manner.SplitManner.{SplitManner}
use Rattle.mdr_top.specs.Layouts.{with_layout}
use Rattle.mdr_top.specs.Messages.{with_messages}
use Rattle.mdr_top.specs.Reports.{Ran, RanTo, Reported, left_when, nothing_ran, world_left}
use Rattle.mdr_top.specs.SplitRuns.{IsLaidRun, IsShownRun, IsSplitLeft, IsSplitOutcome, IsSplitRun, SplitRuns, SplitRunsOver, SplitRunsOverPart, SplitRunsPart}
use Rattle.mdr_watched.specs.Driver.{driver_of}

-- three things that hold of a result
pub with_three : {A E : Type 0} (r : Result A E) (P Q S R : A → Type 0) → ((x : A) → P x → Q x → S x → R x) → IfOk r P → IfOk r Q → IfOk r S → IfOk r R
with_three (Ok x) P Q S R f p q s = f x p q s
with_three (Err e) P Q S R f p q s = tt

-- ---- a load

-- what the far side holds are the texts
pub held_texts : (texts : Texts) (user lines : List ℕ) (answer : LoadAnswer) (held : Option Loaded) → user ≡ texts.user → lines ≡ texts.plan → held ≡ Some (loaded_with user lines answer) → held ≡ Some (loaded_with texts.user texts.plan answer)
held_texts texts user lines answer held user_is plan_is is =
    is ∙ ap (λ (u : List ℕ). Some (loaded_with u lines answer)) user_is ∙ ap (λ (p : List ℕ). Some (loaded_with texts.user p answer)) plan_is

-- the layout that a run leaves, by the answer to the load
pub laid_when : (program : Program) (plan : Plan) (texts : Texts) (script : Bound) (ticks : ℕ) (loaded : Option Loaded) (es : List Exchange) (answer : LoadAnswer) (layout : ℕ × ℕ) → loaded ≡ Some (loaded_with texts.user texts.plan answer)
    → layout ≡ places_of (left_when answer (kernel_in (run_over (driver_of program plan) script ticks es).pending).world (first_world (known_of program) script ticks)).lives → layout ≡ places_of (world_left program plan script ticks loaded es).lives
laid_when program plan texts script ticks loaded es answer layout held laid = laid ∙ sym (ap (λ (l : Option Loaded). places_of (world_left program plan script ticks l es).lives) held)

-- ---- ends

pub nothing_end : (program : Program) (script : Bound) (ticks : ℕ) (end : End) → (nothing_ran program script ticks end).end ≡ end
unfolding outcome_of
nothing_end program script ticks end = refl

-- texts that are refused are no fault of the far side's
pub refused_so : (A : Type 0) (program : Program) (script : Bound) (ticks : ℕ) (o : Outcome) → o ≡ nothing_ran program script ticks (ends.Refused 0 refusal.Load 0) → IsFarFault o.end → A
refused_so A program script ticks o is f = absurd (subst IsFarFault (ap (λ (x : Outcome). x.end) is ∙ nothing_end program script ticks (ends.Refused 0 refusal.Load 0)) f)

-- ---- reports

-- an outcome's report is that of the run over the far side
pub report_so : (program : Program) (plan : Plan) (texts : Texts) (script : Bound) (ticks : ℕ) (loaded : Option Loaded) (es : List Exchange) (o : Outcome) (s : Status) (text : List ℕ) → RanTo program plan texts script ticks loaded es o → Reported program o s text
    → Ran program plan texts script ticks loaded es s text
report_so program plan texts script ticks loaded es o s text (RanTo.began is run) r = Ran.began is (record { outcome = o; run_is = run; reported = r })
report_so program plan texts script ticks loaded es o s text (RanTo.refused cause is same) r = Ran.refused cause is (subst (λ (x : Outcome). Reported program x s text) same r)
report_so program plan texts script ticks loaded es o s text (RanTo.failed is same) r = Ran.failed is (subst (λ (x : Outcome). Reported program x s text) same r)

-- an outcome's report is the run's
pub split_reported : (source : Source) (script : Bound) (ticks : ℕ) (far far' : FarSide) (o : Outcome) (s : Status) (text : List ℕ) → IsSplitOutcome source script ticks far far' o → Reported source.program o s text → IsSplitRun source script ticks far far' s text
split_reported source script ticks far far' o s text run r = record {
  plan = run.plan;
  texts = run.texts;
  cut = run.cut;
  loads = run.loads;
  ran = report_so source.program run.plan run.texts script ticks far'.loaded far'.exchanges o s text run.ran r;
}

-- and the layout stays
pub laid_reported : (source : Source) (script : Bound) (ticks : ℕ) (far far' : FarSide) (o : Outcome) (layout : ℕ × ℕ) (s : Status) (text : List ℕ) → IsSplitLeft source script ticks far far' o layout → Reported source.program o s text → IsLaidRun source script ticks far far' s text layout
unfolding split_reported
laid_reported source script ticks far far' o layout s text left r = record { run = split_reported source script ticks far far' o s text left.outcome r; laid = left.laid }

-- its status tells of the far side's fault where its end does
pub fault_so : (R : Type 0) (end : End) (s : Status) → (IsFarFault end → R) → s ≡ status_of end → s ≡ status.FarFault → R
fault_so R ends.Ok s f is e = let no : status.Done ≡ status.FarFault = sym is ∙ e in absurd (Prim.cc)
fault_so R (ends.Stop kind at) s f is e = let no : status.Stopped ≡ status.FarFault = sym is ∙ e in absurd (Prim.cc)
fault_so R (ends.Refused exchange cause number) s f is e = let no : status.Marshal ≡ status.FarFault = sym is ∙ e in absurd (Prim.cc)
fault_so R (ends.FarFault exchange) s f is e = f tt

-- and it tells of no file
pub read_so : (end : End) (s : Status) → s ≡ status_of end → (before after : Counts) → HasReadCause before after s
read_so end s is before after = subst (HasReadCause before after) (sym is) (of end)
  where
    of : (x : End) → HasReadCause before after (status_of x)
    of ends.Ok = tt
    of (ends.Stop kind at) = tt
    of (ends.Refused exchange cause number) = tt
    of (ends.FarFault exchange) = tt

-- ---- what stands behind a report

-- the messages and the layout of a run are shown behind its report where they are asked for; its status is the same
pub shown_so : (source : Source) (script : Bound) (manner : SplitManner) (far far' : FarSide) (s s' : Status) (report text : List ℕ) (es : List Exchange) (layout : ℕ × ℕ) → IsLaidRun source script manner.ticks far far' s report layout → es ≡ far'.exchanges → s' ≡ s
    → text ≡ with_layout manner.region layout (with_messages manner.wire es report) → IsShownRun source script manner far far' s' text
shown_so source script manner far far' s s' report text es layout laid same status_is text_is =
    subst (λ (t : Status). IsShownRun source script manner far far' t text) (sym status_is) (record {
      report = report;
      run = laid.run;
      shown = text_is ∙ (λ i. with_layout manner.region (laid.laid i) (with_messages manner.wire (same i) report));
    })

-- ---- the whole command

module _ (files later : Files) (source_name script_name : List ℕ) (manner : SplitManner) (old between new : List ShelfCall) (far far' : FarSide) (source : Source) (kept : later ≡ files) (read : IsSourceOf files source_name old between source) where
  pub runs_so : (s : Status) (text : List ℕ) → SplitRunsOver later source script_name manner between new far far' s text → SplitRuns files source_name script_name manner old new far far' s text
  runs_so s text (SplitRunsOver.no_script none same) = SplitRuns.no_script source between read (subst (λ (f : Files). NoScriptOf f source.program script_name between new s text) kept none) same
  runs_so s text (SplitRunsOver.ran script is run) = SplitRuns.ran source script between read (subst (λ (f : Files). IsScriptOf f source.program script_name between new script) kept is) run

  pub runs_part : SplitRunsOverPart later source script_name manner.ticks between new far far' → SplitRunsPart files source_name script_name manner.ticks old new far far'
  runs_part (SplitRunsOverPart.script_read was same) = SplitRunsPart.script_read source between read (subst (λ (f : Files). WasRead f script_name longest_script between new) kept was) same
  runs_part (SplitRunsOverPart.ran_part script is part) = SplitRunsPart.ran_part source script between read (subst (λ (f : Files). IsScriptOf f source.program script_name between new script) kept is) part
