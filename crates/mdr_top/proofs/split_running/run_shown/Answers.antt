use Rattle.std.proofs.Common.{sym, ◌∙◌, subst}
use Rattle.mdr_due.proofs.StageSteps.{on_err}
use Rattle.mdr_due.specs.Statuses.{HasReadCause}
use Rattle.mdr_top.proofs.Steps.{shown_so}
use Rattle.mdr_top.proofs.split_running.run_shown.Goals as goal

pub returns-clause-done : goal.returns-clause-done
returns-clause-done g c = shown_so _ _ c.args.manner _ _ _ _ _ _ c.exchanges.result.now _ c.in_ok-due.ensures.done c.exchanges.ensures c.in_ok-all.ensures.0 c.in_ok-all.ensures.1

pub returns-clause-failed : goal.returns-clause-failed
returns-clause-failed g c = λ is. c.in_ok-due.ensures.failed (sym c.in_ok-all.ensures.0 ∙ is)

pub returns-clause-read : goal.returns-clause-read
returns-clause-read g c = λ before after. subst (HasReadCause before after) (sym c.in_ok-all.ensures.0) (c.in_ok-due.ensures.read before after)

pub returns-in_err-all-clause-part : goal.returns-in_err-all-clause-part
returns-in_err-all-clause-part g c = on_err _ c.in_ok-due.ensures.part

pub returns-in_err-due-clause-part : goal.returns-in_err-due-clause-part
returns-in_err-due-clause-part g c = on_err _ c.in_err-due.ensures.part
