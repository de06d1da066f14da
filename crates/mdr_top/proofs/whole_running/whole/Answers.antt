use Rattle.mdr_due.specs.declared.due.Due.{Due}
use Rattle.mdr_due.specs.Reads.{WasRead, longest_script}
use Rattle.mdr_due.specs.Statuses.{HasReadCause}
use Rattle.mdr_due.proofs.StageSteps.{err_weaker}
use Rattle.mdr_slicer.proofs.Steps.{ended, gone, ok_so}
use Rattle.mdr_top.specs.WholeRuns.{RunsOver, Runs, RunsPart}
use Rattle.mdr_top.specs.WholeRuns.Runs.{no_source}
use Rattle.mdr_top.proofs.Stages.{runs_part, runs_so, since, source_has_bodies}
use Rattle.mdr_top.proofs.whole_running.whole.Goals as goal

pub returns-in-Ok-Ends-clause-done : goal.returns-in-Ok-Ends-clause-done
returns-in-Ok-Ends-clause-done g c = no_source (ended _ _ c.in-Ok-Ends.field-0 c.in-Ok-Ends.due c.in-Ok-Ends.field-0-is c.in-Ok-Ends.ensures.read)

pub returns-clause-done : goal.returns-clause-done
returns-clause-done g c =
    ok_so c.run_over.result (λ (due : Due). RunsOver (g.S.Shelf.files c.source_of.new.shelf) c.in-Ok-Goes.source.program c.args.script_name.now c.args.manner (g.S.Shelf.calls c.source_of.new.shelf) (g.S.Shelf.calls c.run_over.new.shelf) due.status due.text.items)
    (λ (due : Due). Runs (g.S.Shelf.files c.args.shelf.now) c.args.source_name.now c.args.script_name.now c.args.manner (g.S.Shelf.calls c.args.shelf.now) (g.S.Shelf.calls c.run_over.new.shelf) due.status due.text.items)
    (λ due runs. runs_so (g.S.Shelf.files c.args.shelf.now) (g.S.Shelf.files c.source_of.new.shelf) c.args.source_name.now c.args.script_name.now c.args.manner (g.S.Shelf.calls c.args.shelf.now) (g.S.Shelf.calls c.source_of.new.shelf) (g.S.Shelf.calls c.run_over.new.shelf) c.in-Ok-Goes.source c.source_of.ensures.kept (gone _ _ c.in-Ok-Goes.field-0 c.in-Ok-Goes.source c.in-Ok-Goes.field-0-is c.in-Ok-Goes.ensures.read) due.status due.text.items runs) c.run_over.ensures.done

pub returns-clause-part : goal.returns-clause-part
returns-clause-part g c =
    err_weaker c.run_over.result (WasRead (g.S.Shelf.files c.source_of.new.shelf) c.args.script_name.now longest_script (g.S.Shelf.calls c.source_of.new.shelf) (g.S.Shelf.calls c.run_over.new.shelf))
    (RunsPart (g.S.Shelf.files c.args.shelf.now) c.args.source_name.now c.args.script_name.now (g.S.Shelf.calls c.args.shelf.now) (g.S.Shelf.calls c.run_over.new.shelf))
    (λ was. runs_part (g.S.Shelf.files c.args.shelf.now) (g.S.Shelf.files c.source_of.new.shelf) c.args.source_name.now c.args.script_name.now c.args.manner (g.S.Shelf.calls c.args.shelf.now) (g.S.Shelf.calls c.source_of.new.shelf) (g.S.Shelf.calls c.run_over.new.shelf) c.in-Ok-Goes.source c.source_of.ensures.kept (gone _ _ c.in-Ok-Goes.field-0 c.in-Ok-Goes.source c.in-Ok-Goes.field-0-is c.in-Ok-Goes.ensures.read) was) c.run_over.ensures.part

pub returns-clause-read : goal.returns-clause-read
returns-clause-read g c =
    ok_so c.run_over.result (λ (due : Due). HasReadCause (record { faults = g.S.Shelf.faults c.source_of.new.shelf; absent = g.S.Shelf.absent c.source_of.new.shelf; long = g.S.Shelf.long c.source_of.new.shelf }) (record { faults = g.S.Shelf.faults c.run_over.new.shelf; absent = g.S.Shelf.absent c.run_over.new.shelf; long = g.S.Shelf.long c.run_over.new.shelf }) due.status)
    (λ (due : Due). HasReadCause (record { faults = g.S.Shelf.faults c.args.shelf.now; absent = g.S.Shelf.absent c.args.shelf.now; long = g.S.Shelf.long c.args.shelf.now }) (record { faults = g.S.Shelf.faults c.run_over.new.shelf; absent = g.S.Shelf.absent c.run_over.new.shelf; long = g.S.Shelf.long c.run_over.new.shelf }) due.status)
    (λ due cause. since _ _ _ due.status c.source_of.ensures.faults_later c.source_of.ensures.absent_later c.source_of.ensures.long_later cause) c.run_over.ensures.read

pub run_over-requires-clause-bodies : goal.run_over-requires-clause-bodies
run_over-requires-clause-bodies g c =
    let source = gone _ _ c.in-Ok-Goes.field-0 c.in-Ok-Goes.source c.in-Ok-Goes.field-0-is c.in-Ok-Goes.ensures.read in
    source_has_bodies source.bytes c.in-Ok-Goes.source source.has
