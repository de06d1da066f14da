use Rattle.mdr_slicer.proofs.Steps.{ended, gone}
use Rattle.mdr_top.specs.WholeRuns.RunsOver.{no_script, ran}
use Rattle.mdr_top.proofs.whole_running.run_over.Goals as goal

pub returns-in-Ok-Ends-clause-done : goal.returns-in-Ok-Ends-clause-done
returns-in-Ok-Ends-clause-done g c = no_script (ended _ _ c.in-Ok-Ends.field-0 c.in-Ok-Ends.due c.in-Ok-Ends.field-0-is c.in-Ok-Ends.ensures.read)

pub returns-clause-done : goal.returns-clause-done
returns-clause-done g c = ran c.in-Ok-Goes.script (gone _ _ c.in-Ok-Goes.field-0 c.in-Ok-Goes.script c.in-Ok-Goes.field-0-is c.in-Ok-Goes.ensures.read) c.in_ok-due.ensures.run

pub script_of-requires : goal.script_of-requires
script_of-requires g c = c.requires.sound.numbers
