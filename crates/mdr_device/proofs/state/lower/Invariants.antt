use Rattle.std.proofs.Common.{◌≡◌, ◌-◌, ◌++◌, length, take, drop, map}
use Rattle.mdr_device.proofs.state.lower.Given as goal

abbrev pub invariant-loop-i : goal.invariant-loop-i
invariant-loop-i l = take l.i l.counts ++ map (λ n. n - l.ticks) (drop l.i l.counts) ≡ map (λ n. n - l.ticks) l.fn.counts

abbrev pub decreases-loop-i : goal.decreases-loop-i
decreases-loop-i l = length l.counts - l.i
