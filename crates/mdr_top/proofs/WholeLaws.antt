-- What is done where a script is run on one memory is what is due for it.
use Rattle.std.proofs.Common.{◌≢◌, ℕ, List, sym, subst}
use Rattle.mdr_model.specs.declared.outcome.End.{End}
use Rattle.mdr_model.specs.declared.outcome.End.TheVariants as ends
use Rattle.mdr_model.specs.Law.{IsOwn}
use Rattle.mdr_outside.specs.Calls.{ShelfCall}
use Rattle.mdr_due.specs.declared.status.Status.{Status}
use Rattle.mdr_due.specs.declared.status.Status.TheVariants as status
use Rattle.mdr_due.specs.Reads.{Files, longest_script}
use Rattle.mdr_top.specs.declared.manner.Manner.{Manner}
use Rattle.mdr_top.specs.Scripts.{NoScriptOf}
use Rattle.mdr_top.specs.WholeRuns.{status_of, RunsOver, Runs}
use Rattle.mdr_top.proofs.Stages.{outcome_own}
use Rattle.mdr_top.specs.Answers.{Untaken, IsTaken, ScriptAnswered, FileAnswered, WholeDue}
use Rattle.mdr_top.specs.Wholes.{IsOfWhole}
use Rattle.mdr_top.proofs.CutLaws.{unread_so, untaken_so}
use Rattle.mdr_top.proofs.Statuses.{HoldsSourceless, answered_status, untaken_status}

-- ---- what is due

pub whole_so : (files : Files) (source_name script_name : List ℕ) (manner : Manner) (old new : List ShelfCall) (s : Status) (text : List ℕ) → Runs files source_name script_name manner old new s text
    → FileAnswered files source_name script_name (WholeDue manner s text) s text
whole_so files source_name script_name manner old new s text (Runs.no_source none) = ScriptAnswered.no_source (untaken_so files source_name old new s text none)
whole_so files source_name script_name manner old new s text (Runs.sourced source between read (RunsOver.no_script (NoScriptOf.unread u))) =
    ScriptAnswered.script_unread source (record { bytes = read.bytes; read = read.read.told; has = read.has }) (unread_so files script_name longest_script between new s text u)
whole_so files source_name script_name manner old new s text (Runs.sourced source between read (RunsOver.no_script (NoScriptOf.refused lines told none))) =
    ScriptAnswered.script_refused source lines (record { bytes = read.bytes; read = read.read.told; has = read.has }) told.told none
whole_so files source_name script_name manner old new s text (Runs.sourced source between read (RunsOver.ran script given run)) =
    ScriptAnswered.ran source given.bytes script (record { bytes = read.bytes; read = read.read.told; has = read.has }) given.read.told given.has run

-- ---- statuses

end_status : (end : End) → IsOwn end → IsOfWhole (status_of end)
end_status ends.Ok own = tt
end_status (ends.Stop kind at) own = tt
end_status (ends.Refused exchange cause number) own = own
end_status (ends.FarFault exchange) own = own

holds_sourceless : HoldsSourceless IsOfWhole
holds_sourceless = record { missing = tt; long = tt; failed = tt; refused = tt }

pub whole_status : (files : Files) (source_name script_name : List ℕ) (manner : Manner) (old new : List ShelfCall) (s : Status) (text : List ℕ) → Runs files source_name script_name manner old new s text → IsOfWhole s
whole_status files source_name script_name manner old new s text runs =
    answered_status IsOfWhole holds_sourceless files s text (Untaken files source_name) (IsTaken files source_name) script_name (WholeDue manner s text) (untaken_status IsOfWhole holds_sourceless files s text source_name) tt
    (λ source script run. subst IsOfWhole (sym run.status_is) (end_status run.outcome.end (outcome_own source.program script manner run.outcome run.is_outcome)))
    (whole_so files source_name script_name manner old new s text runs)

-- none of them is a write fault
pub whole_unwritten : (files : Files) (source_name script_name : List ℕ) (manner : Manner) (old new : List ShelfCall) (s : Status) (text : List ℕ) → Runs files source_name script_name manner old new s text → s ≢ status.WriteFault
whole_unwritten files source_name script_name manner old new s text runs = λ e. subst IsOfWhole e (whole_status files source_name script_name manner old new s text runs)
