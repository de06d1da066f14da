use Rattle.std.proofs.Common.{◌≡◌, drop}
use Rattle.mdr_device.specs.Rules.{fired}
use Rattle.mdr_device.proofs.firing.fire.Given as goal

abbrev pub invariant-loop-rule : goal.invariant-loop-rule
invariant-loop-rule l = fired l.event (drop l.rule-index l.rules) l.state ≡ fired l.event l.rules l.fn.state
