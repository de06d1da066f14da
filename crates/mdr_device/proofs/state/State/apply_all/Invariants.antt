use Rattle.std.proofs.Common.{◌≡◌, drop}
use Rattle.mdr_device.specs.Rules.{all_effected}
use Rattle.mdr_device.proofs.state.State.apply_all.Given as goal

abbrev pub invariant-loop-effect : goal.invariant-loop-effect
invariant-loop-effect l = all_effected (drop l.effect-index l.effects) l.self ≡ all_effected l.effects l.fn.self
