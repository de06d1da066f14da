use Rattle.std.specs.Prelude.{nat_lt}
use Rattle.mdr_cells.specs.Names.{named}
use Rattle.mdr_reach.specs.Marks.{AreMarked, counts_at}
use Rattle.mdr_reach.proofs.marks.marked_globals.Given as goal

abbrev pub invariant-loop-global : goal.invariant-loop-global
invariant-loop-global l = AreMarked (counts_at l.scene.program.now l.scene.touched.now l.scene.blocks.now.memory) (λ c. nat_lt c.serial l.global) (named l.marked)
