-- How a run over a far side ends.
use Rattle.std.proofs.Common.{◌≡◌, ℕ, List, Option, refl, sym, ap, ◌∙◌, subst}
use Rattle.std.specs.Prelude.{IsSomeAnd}
use Rattle.mdr_core.specs.declared.plan.Plan.{Plan}
use Rattle.mdr_core.specs.declared.program.Program.{Program}
use Rattle.mdr_core.specs.declared.refusal.RefuseKind.TheVariants as refusal
use Rattle.mdr_cut.specs.declared.texts.Texts.{Texts}
use Rattle.mdr_due.specs.declared.status.Status.{Status}
use Rattle.mdr_due.specs.declared.status.Status.TheVariants as status
use Rattle.mdr_exchanges.proofs.Endings.{as_before}
use Rattle.mdr_exchanges.specs.Runs.{HasEnded, IsRun, finish_of, run_over}
use Rattle.mdr_model.specs.declared.outcome.End.{End}
use Rattle.mdr_model.specs.declared.outcome.End.TheVariants as ends
use Rattle.mdr_outside.specs.declared.far.Exchange.{Exchange}
use Rattle.mdr_outside.specs.declared.far.LoadAnswer.TheVariants as loads
use Rattle.mdr_outside.specs.declared.far.Loaded.{Loaded}
use Rattle.mdr_plain.specs.declared.outcome.Outcome.{Outcome}
use Rattle.mdr_plain.specs.Outcome.{outcome_of}
use Rattle.mdr_plain.specs.Report.{report}
use Rattle.mdr_plain.specs.Scripts.{Finish, finish}
use Rattle.mdr_top.specs.WholeRuns.{status_of}
use Rattle.mdr_bound.specs.declared.bound.Bound.{Bound}
use Rattle.mdr_split.specs.AnyAnswers.{kernel_in}
use Rattle.mdr_split.specs.State.{Over, Pending, Waits}
use Rattle.mdr_top.proofs.Steps.{nothing_end, report_so}
use Rattle.mdr_top.specs.Ends.{Ends, EndsWith, FailedLast, IsDueToFar, SplitRunsEnd}
use Rattle.mdr_top.specs.Reports.{Ran, RanTo}
use Rattle.mdr_watched.specs.Driver.{Driver, driver_of}

finish_is : (p : Pending) → finish_of p ≡ finish (finish_of p).end (kernel_in p).world
finish_is (Over end k) = refl
finish_is (Waits m k upcall rest left) = refl

end_is : (program : Program) (f : Finish) → (outcome_of program f).end ≡ f.end
unfolding outcome_of
end_is program f = refl

-- a run's outcome shows what the far side has to do with its end
pub due_to_far : (d : Driver) (script : Bound) (ticks : ℕ) (es : List Exchange) (o : Outcome) → IsRun d script ticks es o → IsDueToFar d script ticks es o.end
due_to_far d script ticks es o run =
    let p : Pending = (run_over d script ticks es).pending in
    let ended : HasEnded d script ticks es (finish_of p).end (kernel_in p) = record { messages = run.messages; spelled = run.spelled; ended = finish_is p; kernel = refl } in
    subst (IsDueToFar d script ticks es) (sym (ap (λ (x : Outcome). x.end) run.outcome ∙ end_is d.program (finish_of p)))
    (as_before d script ticks es (finish_of p).end (kernel_in p) ended)

pub split_runs_end : SplitRunsEnd
split_runs_end program plan texts script ticks loaded es s text (Ran.began is b) =
    record { end = b.outcome.end; ends = Ends.began b.outcome is b.run_is refl (due_to_far (driver_of program plan) script ticks es b.outcome b.run_is); status_is = b.reported.status_is }
split_runs_end program plan texts script ticks loaded es s text (Ran.refused cause is r) =
    record { end = ends.Refused 0 refusal.Load 0; ends = Ends.refused cause is refl; status_is = r.status_is ∙ ap status_of (nothing_end program script ticks (ends.Refused 0 refusal.Load 0)) }
split_runs_end program plan texts script ticks loaded es s text (Ran.failed is r) =
    record { end = ends.FarFault 0; ends = Ends.failed is refl; status_is = r.status_is ∙ ap status_of (nothing_end program script ticks (ends.FarFault 0)) }

-- so it is of what a run shows, with the status of its end
pub outcome_ends : (program : Program) (plan : Plan) (texts : Texts) (script : Bound) (ticks : ℕ) (loaded : Option Loaded) (es : List Exchange) (o : Outcome) (s : Status) → RanTo program plan texts script ticks loaded es o → s ≡ status_of o.end
    → EndsWith program plan texts script ticks loaded es s
outcome_ends program plan texts script ticks loaded es o s ran is = split_runs_end program plan texts script ticks loaded es s (report program o) (report_so program plan texts script ticks loaded es o s (report program o) ran (record { status_is = is; text_is = refl }))

-- ---- the far side's fault

no_fault : (end other : End) → end ≡ other → status_of other ≡ status.Marshal → status_of end ≡ status.FarFault → ⊥
no_fault end other is marshal fault = let no : status.Marshal ≡ status.FarFault = sym marshal ∙ sym (ap status_of is) ∙ fault in Prim.cc

fault_in : (d : Driver) (script : Bound) (ticks : ℕ) (loaded : Option Loaded) (es : List Exchange) (end : End) → IsDueToFar d script ticks es end → status_of end ≡ status.FarFault → FailedLast loaded es
fault_in d script ticks loaded es ends.Ok due e = absurd (Prim.cc)
fault_in d script ticks loaded es (ends.Stop kind at) due e = absurd (Prim.cc)
fault_in d script ticks loaded es (ends.Refused exchange cause number) due e = absurd (Prim.cc)
fault_in d script ticks loaded es (ends.FarFault exchange) due e = FailedLast.at_message exchange due.unanswered

module _ (program : Program) (plan : Plan) (texts : Texts) (script : Bound) (ticks : ℕ) (loaded : Option Loaded) (es : List Exchange) where
  fault_so : (end : End) → Ends program plan texts script ticks loaded es end → status_of end ≡ status.FarFault → FailedLast loaded es
  fault_so end (Ends.began o is run same due) e = fault_in (driver_of program plan) script ticks loaded es end due e
  fault_so end (Ends.refused cause is same) e = absurd (no_fault end (ends.Refused 0 refusal.Load 0) same refl e)
  fault_so end (Ends.failed is same) e = FailedLast.at_load (subst (λ (l : Option Loaded). IsSomeAnd l (λ load. load.answer ≡ loads.Failed)) (sym is) refl)

  -- a run that ends with the far side's fault
  pub fails_last : (s : Status) → EndsWith program plan texts script ticks loaded es s → s ≡ status.FarFault → FailedLast loaded es
  fails_last s e is = fault_so e.end e.ends (sym e.status_is ∙ is)
