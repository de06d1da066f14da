-- The stages of running a script.
use Rattle.std.proofs.Common.{◌≡◌, ℕ, ◌≤◌, Bool, true, false, List, [], ◌∷◌, arith, sym, ap, ◌∙◌, subst}
use Rattle.mdr_core.specs.declared.plan.Plan.{Plan}
use Rattle.mdr_core.specs.declared.program.Program.{Program}
use Rattle.mdr_cut.proofs.Determined.{plan_is_determined}
use Rattle.mdr_honest.proofs.Taken.{source_bodies}
use Rattle.mdr_model.specs.declared.command.Command.{Command}
use Rattle.mdr_model.specs.declared.outcome.End.{End}
use Rattle.mdr_model.specs.declared.outcome.End.TheVariants as ends
use Rattle.mdr_model.specs.Law.{IsOwn}
use Rattle.mdr_outside.specs.Calls.{ShelfCall}
use Rattle.mdr_outside.specs.declared.shelf.ReadAnswer.TheVariants as reads
use Rattle.mdr_bound.specs.declared.bound.Bound.{Bound}
use Rattle.mdr_plain.specs.declared.outcome.Outcome.{Outcome}
use Rattle.mdr_plain.specs.Outcome.{outcome_of}
use Rattle.mdr_plain.specs.Plain.{plain, plain_of}
use Rattle.mdr_plain.specs.Scripts.{Finish, commands, and_then}
use Rattle.mdr_plain.specs.World.{World, Ended, Stopped, Work}
use Rattle.mdr_watched.specs.Watched.{watched, watched_of}
use Rattle.mdr_source.specs.declared.outcome.Source.{Source}
use Rattle.mdr_source.proofs.Whose.{come_source}
use Rattle.mdr_due.specs.declared.due.Stage.{Stage}
use Rattle.mdr_due.specs.declared.due.Stage.TheVariants as stage
use Rattle.mdr_due.specs.declared.status.Status.{Status}
use Rattle.mdr_due.specs.declared.status.Status.TheVariants as status
use Rattle.mdr_due.specs.Statuses.{Counts, HasReadCause}
use Rattle.mdr_due.specs.Reads.{Files, IsRead, WasRead, longest_script}
use Rattle.mdr_due.specs.Stages.{StageIs}
use Rattle.mdr_slicer.specs.Slicing.{HasSource, IsSourceOf}
use Rattle.mdr_watch.specs.Watching.{HaveBodies}
use Rattle.mdr_top.specs.Scripts.{HasScript, NoScript, IsScriptOf, NoScriptOf}
use Rattle.mdr_top.specs.declared.manner.Manner.{Manner}
use Rattle.mdr_top.specs.WholeRuns.{status_of, IsOutcome, OutcomeIsDetermined, RunsOver, Runs, RunsPart}

-- ---- sources

-- each function of a source has its body
pub source_has_bodies : (bytes : List ℕ) (source : Source) → HasSource bytes source → HaveBodies source.program
source_has_bodies bytes source has = source_bodies bytes source (come_source bytes source has.comes)

-- ---- scripts

-- a file that was read, and what its bytes are
pub script_stage : (files : Files) (program : Program) (name : List ℕ) (old new : List ShelfCall) (bytes seen : List ℕ) (st : Stage Bound) → seen ≡ bytes → IsRead files name longest_script old new (reads.Ok bytes) → StageIs (HasScript program seen) (NoScript program seen) st
    → StageIs (IsScriptOf files program name old new) (NoScriptOf files program name old new) st
script_stage files program name old new bytes seen (stage.Goes script) is read has = record { bytes = bytes; read = read; has = subst (λ (b : List ℕ). HasScript program b script) is has }
script_stage files program name old new bytes seen (stage.Ends due) is read none = NoScriptOf.refused bytes read (subst (λ (b : List ℕ). NoScript program b due.status due.text.items) is none)

-- ---- causes

-- a run's end tells of no file
pub end_cause : (end : End) (before after : Counts) → HasReadCause before after (status_of end)
end_cause ends.Ok before after = tt
end_cause (ends.Stop kind at) before after = tt
end_cause (ends.Refused exchange cause number) before after = tt
end_cause (ends.FarFault exchange) before after = tt

-- a count that rose since a later moment rose since an earlier one
pub since : (before between after : Counts) (s : Status) → before.faults ≤ between.faults → before.absent ≤ between.absent → before.long ≤ between.long → HasReadCause between after s → HasReadCause before after s
since before between after status.ReadFault f a l h = omega (arith, f, h)
since before between after status.Missing f a l h = omega (arith, a, h)
since before between after status.TooLarge f a l h = omega (arith, l, h)
since before between after status.Done f a l h = tt
since before between after status.Usage f a l h = tt
since before between after status.SourceRefused f a l h = tt
since before between after status.ScriptRefused f a l h = tt
since before between after status.WriteFault f a l h = tt
since before between after status.FarFault f a l h = tt
since before between after status.Marshal f a l h = tt
since before between after status.Stopped f a l h = tt
since before between after status.OutOfMemory f a l h = tt
since before between after status.HalvesRefused f a l h = tt
since before between after status.NotVerified f a l h = tt

-- ---- the whole command

module _ (files later : Files) (source_name script_name : List ℕ) (manner : Manner) (old between new : List ShelfCall) (source : Source) (kept : later ≡ files) (read : IsSourceOf files source_name old between source) where
  pub runs_so : (s : Status) (text : List ℕ) → RunsOver later source.program script_name manner between new s text → Runs files source_name script_name manner old new s text
  runs_so s text runs = Runs.sourced source between read (subst (λ (f : Files). RunsOver f source.program script_name manner between new s text) kept runs)

  pub runs_part : WasRead later script_name longest_script between new → RunsPart files source_name script_name old new
  runs_part was = RunsPart.script_read source between read (subst (λ (f : Files). WasRead f script_name longest_script between new) kept was)

-- ---- how a run ends

commands_own : (does : Command → World → Work) (cs : List Command) (w : World) → IsOwn (commands does cs w).end
unfolding commands
commands_own does [] w = tt
commands_own does (c ∷ cs) w = of (does c w) (λ w'. commands_own does cs w')
  where
    of : (work : Work) → ((w' : World) → IsOwn (commands does cs w').end) → IsOwn (and_then work (λ w'. commands does cs w')).end
    of (Ended x w') on = on w'
    of (Stopped kind at w') on = tt

finish_own : (program : Program) (f : Finish) → IsOwn f.end → IsOwn (outcome_of program f).end
unfolding outcome_of
finish_own program f own = own

plain_own : (program : Program) (script : Bound) (ticks : ℕ) → IsOwn (plain program script ticks).end
unfolding plain_of
plain_own program script ticks = commands_own _ script.commands _

watched_own : (program : Program) (plan : Plan) (script : Bound) (ticks : ℕ) → IsOwn (watched program plan script ticks).end
unfolding watched_of
watched_own program plan script ticks = commands_own _ script.commands _

-- a run on one memory ends by itself, or the driver stops
pub outcome_own : (program : Program) (script : Bound) (manner : Manner) (o : Outcome) → IsOutcome program script manner o → IsOwn o.end
outcome_own program script manner o (IsOutcome.plain_run none is) =
    subst (λ (x : Outcome). IsOwn x.end) (sym is) (finish_own program (plain program script manner.ticks) (plain_own program script manner.ticks))
outcome_own program script manner o (IsOutcome.watched_run so plan of is) =
    subst (λ (x : Outcome). IsOwn x.end) (sym is) (finish_own program (watched program plan script manner.ticks) (watched_own program plan script manner.ticks))

-- ---- there is one outcome

apart : (b : Bool) → b ≡ true → b ≡ false → ⊥
apart b e f = let differ : true ≡ false = sym e ∙ f in absurd (Prim.cc)

pub outcome_is_determined : OutcomeIsDetermined
outcome_is_determined program script manner o other (IsOutcome.plain_run none is) (IsOutcome.plain_run none' is') = is ∙ sym is'
outcome_is_determined program script manner o other (IsOutcome.plain_run none is) (IsOutcome.watched_run so plan of is') = absurd (apart manner.watched so none)
outcome_is_determined program script manner o other (IsOutcome.watched_run so plan of is) (IsOutcome.plain_run none is') = absurd (apart manner.watched so none)
outcome_is_determined program script manner o other (IsOutcome.watched_run so plan of is) (IsOutcome.watched_run so' plan' of' is') =
    is ∙ ap (λ (p : Plan). outcome_of program (watched program p script manner.ticks)) (plan_is_determined program plan plan' of of') ∙ sym is'
