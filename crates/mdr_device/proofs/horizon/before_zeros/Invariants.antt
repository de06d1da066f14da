use Rattle.std.proofs.Common.{◌≡◌, drop}
use Rattle.mdr_device.specs.Horizon.{before_zeros}
use Rattle.mdr_device.proofs.horizon.before_zeros.Given as goal

abbrev pub invariant-loop-count : goal.invariant-loop-count
invariant-loop-count l = before_zeros (drop l.count-index l.counts) l.before ≡ before_zeros l.counts l.most
