-- What is done where a script is run over the two halves of a source is what is due for it.
use Rattle.std.proofs.Common.{◌≢◌, ℕ, List, Option, sym, subst}
use Rattle.mdr_core.specs.declared.plan.Plan.{Plan}
use Rattle.mdr_core.specs.declared.program.Program.{Program}
use Rattle.mdr_cut.specs.declared.texts.Texts.{Texts}
use Rattle.mdr_model.specs.declared.outcome.End.{End}
use Rattle.mdr_model.specs.declared.outcome.End.TheVariants as ends
use Rattle.mdr_outside.specs.Calls.{ShelfCall}
use Rattle.mdr_outside.specs.declared.far.Exchange.{Exchange}
use Rattle.mdr_outside.specs.declared.far.Loaded.{Loaded}
use Rattle.mdr_outside.specs.Sides.{FarSide}
use Rattle.mdr_due.specs.declared.status.Status.{Status}
use Rattle.mdr_due.specs.declared.status.Status.TheVariants as status
use Rattle.mdr_due.specs.Reads.{Files, longest_script}
use Rattle.mdr_bound.specs.declared.bound.Bound.{Bound}
use Rattle.mdr_top.specs.Scripts.{NoScriptOf}
use Rattle.mdr_top.specs.WholeRuns.{status_of}
use Rattle.mdr_top.specs.declared.split_manner.SplitManner.{SplitManner}
use Rattle.mdr_top.specs.Ends.{EndsWith}
use Rattle.mdr_top.specs.Reports.{Ran}
use Rattle.mdr_top.specs.SplitRuns.{SplitRuns}
use Rattle.mdr_top.proofs.Endings.{split_runs_end}
use Rattle.mdr_top.specs.Answers.{Untaken, IsTaken, ScriptAnswered, FileAnswered, SplitDue}
use Rattle.mdr_top.specs.Splits.{IsOfRun}
use Rattle.mdr_top.proofs.CutLaws.{unread_so, untaken_so}
use Rattle.mdr_top.proofs.Statuses.{HoldsSourceless, answered_status, untaken_status}

-- ---- what is due

pub split_so : (files : Files) (source_name script_name : List ℕ) (manner : SplitManner) (old new : List ShelfCall) (far far' : FarSide) (s : Status) (text : List ℕ)
    → SplitRuns files source_name script_name manner old new far far' s text → FileAnswered files source_name script_name (SplitDue manner far'.loaded far'.exchanges s text) s text
split_so files source_name script_name manner old new far far' s text (SplitRuns.no_source none f) = ScriptAnswered.no_source (untaken_so files source_name old new s text none)
split_so files source_name script_name manner old new far far' s text (SplitRuns.no_script source between read (NoScriptOf.unread u) f) =
    ScriptAnswered.script_unread source (record { bytes = read.bytes; read = read.read.told; has = read.has }) (unread_so files script_name longest_script between new s text u)
split_so files source_name script_name manner old new far far' s text (SplitRuns.no_script source between read (NoScriptOf.refused lines told none) f) =
    ScriptAnswered.script_refused source lines (record { bytes = read.bytes; read = read.read.told; has = read.has }) told.told none
split_so files source_name script_name manner old new far far' s text (SplitRuns.ran source script between read given run) =
    ScriptAnswered.ran source given.bytes script (record { bytes = read.bytes; read = read.read.told; has = read.has }) given.read.told given.has
    (record { plan = run.run.plan; texts = run.run.texts; cut = run.run.cut; report = run.report; ran = run.run.ran; shown = run.shown })

-- ---- statuses

-- each end of a run has one of its statuses
pub end_status : (end : End) → IsOfRun (status_of end)
end_status ends.Ok = tt
end_status (ends.Stop kind at) = tt
end_status (ends.Refused exchange cause number) = tt
end_status (ends.FarFault exchange) = tt

-- a run ends with a status of a run, whatever the far side answers
pub run_status : (program : Program) (plan : Plan) (texts : Texts) (script : Bound) (ticks : ℕ) (loaded : Option Loaded) (es : List Exchange) (s : Status) (text : List ℕ) → Ran program plan texts script ticks loaded es s text → IsOfRun s
run_status program plan texts script ticks loaded es s text ran =
    let ended : EndsWith program plan texts script ticks loaded es s = split_runs_end program plan texts script ticks loaded es s text ran in
    subst IsOfRun (sym ended.status_is) (end_status ended.end)

-- none of them is a write fault
abbrev IsElse : Status → Type 0
IsElse s = s ≢ status.WriteFault

holds_sourceless : HoldsSourceless IsElse
holds_sourceless = record { missing = λ e. Prim.cc; long = λ e. Prim.cc; failed = λ e. Prim.cc; refused = λ e. Prim.cc }

pub split_unwritten : (files : Files) (source_name script_name : List ℕ) (manner : SplitManner) (old new : List ShelfCall) (far far' : FarSide) (s : Status) (text : List ℕ) → SplitRuns files source_name script_name manner old new far far' s text → s ≢ status.WriteFault
split_unwritten files source_name script_name manner old new far far' s text runs =
    answered_status IsElse holds_sourceless files s text (Untaken files source_name) (IsTaken files source_name) script_name (SplitDue manner far'.loaded far'.exchanges s text) (untaken_status IsElse holds_sourceless files s text source_name) (λ e. Prim.cc)
    (λ source script due. λ e. subst IsOfRun e (run_status source.program due.plan due.texts script manner.ticks far'.loaded far'.exchanges s due.report due.ran))
    (split_so files source_name script_name manner old new far far' s text runs)
