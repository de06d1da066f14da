use Rattle.std.proofs.Common.{◌≡◌, drop}
use Rattle.mdr_faults.specs.Faults.{told, followed}
use Rattle.mdr_body.specs.Labels.{labels_made, labels_behind}
use Rattle.mdr_body.proofs.labels.labels_made.Given as goal

abbrev pub invariant-loop-l : goal.invariant-loop-l
invariant-loop-l l = (followed l.all (told (labels_made l.scope l.names l.kind l.seen (drop l.l-index l.labels))) ≡ told (labels_made l.scope l.names l.kind l.fn.seen l.labels)) × (labels_behind l.scope l.names l.kind l.seen (drop l.l-index l.labels) ≡ labels_behind l.scope l.names l.kind l.fn.seen l.labels)
