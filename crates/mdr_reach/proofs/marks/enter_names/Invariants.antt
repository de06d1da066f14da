use Rattle.std.proofs.Common.{◌≡◌, drop}
use Rattle.std.specs.Prelude.{MatchOption}
use Rattle.mdr_cells.specs.Names.{named}
use Rattle.mdr_reach.specs.declared.held.Held.{Held}
use Rattle.mdr_reach.specs.Marks.{IsHeld, counts_at, entered}
use Rattle.mdr_reach.proofs.marks.enter_names.Given as goal

abbrev pub invariant-loop-name : goal.invariant-loop-name
invariant-loop-name l =
    (entered (counts_at l.scene.program.now l.scene.touched.now l.scene.blocks.now.memory) (named l.marked) (named (drop l.name-index l.names))
    ≡ entered (counts_at l.scene.program.now l.scene.touched.now l.scene.blocks.now.memory) (named l.fn.marked) (named l.names))
    × MatchOption l.last (Unit {0}) (λ (x : Held). IsHeld l.scene.program.now l.scene.touched.now l.scene.blocks.now x)
