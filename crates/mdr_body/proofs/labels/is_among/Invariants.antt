use Rattle.std.proofs.Common.{◌≡◌, drop}
use Rattle.mdr_body.specs.Labels.{is_among}
use Rattle.mdr_body.proofs.labels.is_among.Given as goal

abbrev pub invariant-loop-m : goal.invariant-loop-m
invariant-loop-m l = is_among (drop l.m-index l.labels) l.l ≡ is_among l.labels l.l
