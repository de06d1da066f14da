use Rattle.std.proofs.Common.{◌≡◌, drop}
use Rattle.mdr_device.specs.Horizon.{before_rules}
use Rattle.mdr_device.proofs.horizon.before_rules.Given as goal

abbrev pub invariant-loop-rule : goal.invariant-loop-rule
invariant-loop-rule l = before_rules l.ticks (drop l.rule-index l.rules) l.before ≡ before_rules l.ticks l.rules l.most
