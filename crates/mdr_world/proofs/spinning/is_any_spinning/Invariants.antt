use Rattle.std.proofs.Common.{◌≡◌, ◌-◌, drop}
use Rattle.std.specs.List.{list_any}
use Rattle.mdr_plain.specs.Atomic.{has_spinning}
use Rattle.mdr_world.proofs.spinning.is_any_spinning.Given as goal

abbrev pub invariant-loop-place : goal.invariant-loop-place
invariant-loop-place l = list_any has_spinning (drop l.place l.blocks.memory) ≡ list_any has_spinning l.blocks.memory

abbrev pub decreases-loop-place : goal.decreases-loop-place
decreases-loop-place l = l.live - l.place
