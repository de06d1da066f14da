use Rattle.std.proofs.Common.{◌≤◌, ◌+◌, length}
use Rattle.mdr_verify.specs.Reading.{Progress}
use Rattle.mdr_verify.proofs.reading.read_lines.Given as goal

abbrev pub invariant-loop-rest : goal.invariant-loop-rest
invariant-loop-rest l = record {
  progress : Progress l.bytes l.rest l.number l.reader;
  few : l.number + length l.rest ≤ 1 + length l.bytes;
}

abbrev pub decreases-loop-rest : goal.decreases-loop-rest
decreases-loop-rest l = length l.rest
