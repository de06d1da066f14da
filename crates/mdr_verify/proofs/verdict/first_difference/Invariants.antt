use Rattle.std.proofs.Common.{◌≡◌, ◌-◌, length, take}
use Rattle.mdr_verify.proofs.verdict.first_difference.Given as goal

abbrev pub invariant-loop-place : goal.invariant-loop-place
invariant-loop-place l = take l.place l.said ≡ take l.place l.due

abbrev pub decreases-loop-place : goal.decreases-loop-place
decreases-loop-place l = length l.said - l.place
