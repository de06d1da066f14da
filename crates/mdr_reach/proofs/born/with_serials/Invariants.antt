use Rattle.std.proofs.Common.{◌≡◌, ◌++◌, ◌-◌, ◌≤◌}
use Rattle.mdr_reach.specs.Answers.{IsOlder}
use Rattle.mdr_watched.specs.Views.{new_cells}
use Rattle.mdr_reach.proofs.born.with_serials.Given as goal

abbrev pub invariant-loop-serial : goal.invariant-loop-serial
invariant-loop-serial l =
    record {
      gains : l.set ++ new_cells l.scene.program.now l.scene.touched.now l.serial l.scene.blocks.now.memory ≡ l.fn.set ++ new_cells l.scene.program.now l.scene.touched.now l.next l.scene.blocks.now.memory;
      older : IsOlder l.serial l.set;
      within : l.serial ≤ l.births;
    }

abbrev pub decreases-loop-serial : goal.decreases-loop-serial
decreases-loop-serial l = l.births - l.serial
