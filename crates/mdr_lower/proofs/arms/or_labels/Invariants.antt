use Rattle.std.proofs.Common.{◌≡◌, drop}
use Rattle.mdr_lower.specs.Lowering.{or_label}
use Rattle.mdr_lower.proofs.arms.or_labels.Given as goal

abbrev pub invariant-loop-label : goal.invariant-loop-label
invariant-loop-label l = or_label l.slot l.test (drop l.label-index l.labels) ≡ or_label l.slot l.initial.test l.labels
