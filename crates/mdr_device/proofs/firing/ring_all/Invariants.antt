use Rattle.std.proofs.Common.{◌≡◌, drop}
use Rattle.mdr_device.specs.Rules.{rung}
use Rattle.mdr_device.proofs.firing.ring_all.Given as goal

abbrev pub invariant-loop-ticks : goal.invariant-loop-ticks
invariant-loop-ticks l = record {
  so_far : rung l.count (drop l.ticks-index l.left) l.rules l.state ≡ rung 0 l.left l.rules l.fn.state;
  at : l.count ≡ l.ticks-index;
}
