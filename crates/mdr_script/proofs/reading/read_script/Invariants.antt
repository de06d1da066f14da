use Rattle.std.proofs.Common.{◌≡◌, length}
use Rattle.mdr_script.specs.Scripts.{lines_of, script_from, script_of}
use Rattle.mdr_script.proofs.reading.read_script.Given as goal

abbrev pub invariant-loop-rest : goal.invariant-loop-rest
invariant-loop-rest l = script_from l.number l.script (lines_of l.rest) ≡ script_of l.bytes

abbrev pub decreases-loop-rest : goal.decreases-loop-rest
decreases-loop-rest l = length l.rest
