use Rattle.std.proofs.Common.{◌≡◌, ◌++◌, drop}
use Rattle.mdr_body.specs.Labels.{cases}
use Rattle.mdr_body.proofs.labels.cases.Given as goal

abbrev pub invariant-loop-l : goal.invariant-loop-l
invariant-loop-l l = l.values ++ cases l.kind (drop l.l-index l.labels) ≡ cases l.kind l.labels
