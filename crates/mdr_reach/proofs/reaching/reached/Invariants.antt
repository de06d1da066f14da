use Rattle.std.proofs.Common.{◌-◌, List, None}
use Rattle.std.specs.Prelude.{MatchOption}
use Rattle.mdr_cells.specs.Names.{named}
use Rattle.mdr_model.specs.declared.memory.Cell.{Cell}
use Rattle.mdr_reach.specs.declared.held.Held.{Held}
use Rattle.mdr_reach.specs.Marks.{IsFollowed, IsHeld, graph_in}
use Rattle.mdr_reach.proofs.WorkLaws.{turns}
use Rattle.mdr_reach.proofs.reaching.reached.Given as goal

abbrev pub invariant-loop-i : goal.invariant-loop-i
invariant-loop-i l =
    ((roots : List Cell) → IsFollowed (graph_in l.scene) roots (named l.fn.marked) 0 None → IsFollowed (graph_in l.scene) roots (named l.marked) l.i l.failing)
    × MatchOption l.last (Unit {0}) (λ (x : Held). IsHeld l.scene.program.now l.scene.touched.now l.scene.blocks.now x)

abbrev pub decreases-loop-i : goal.decreases-loop-i
decreases-loop-i l = turns (graph_in l.scene) (named l.marked) - l.i
