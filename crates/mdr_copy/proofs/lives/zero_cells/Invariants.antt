use Rattle.std.proofs.Common.{◌≡◌, ◌++◌, ◌-◌, length, drop}
use Rattle.mdr_model.specs.Memory.{zero_block}
use Rattle.mdr_copy.proofs.lives.zero_cells.Given as goal

abbrev pub invariant-loop-zero : goal.invariant-loop-zero
invariant-loop-zero l = l.out.items ++ drop (length l.out.items) (zero_block l.program l.new).cells ≡ (zero_block l.program l.new).cells

abbrev pub decreases-loop-zero : goal.decreases-loop-zero
decreases-loop-zero l = length (zero_block l.program l.new).cells - length l.out.items
