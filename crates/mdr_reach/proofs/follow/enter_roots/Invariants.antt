use Rattle.std.proofs.Common.{◌≡◌, drop, map}
use Rattle.mdr_cells.specs.Names.{named}
use Rattle.mdr_extents.specs.Reaching.{first_failing, root_cells}
use Rattle.mdr_meaning.specs.Values.{wire_of}
use Rattle.mdr_reach.specs.Answers.{root_of}
use Rattle.mdr_reach.specs.Marks.{counts_at, entered}
use Rattle.mdr_reach.proofs.FollowLaws.{failing_from}
use Rattle.mdr_reach.proofs.follow.enter_roots.Given as goal

abbrev pub invariant-loop-i : goal.invariant-loop-i
invariant-loop-i l =
    let program = l.scene.program.now in
    let touched = l.scene.touched.now in
    let m = l.scene.blocks.now.memory in
    let passed = map wire_of l.passed in
    record {
      failing : failing_from program touched m passed (map root_of (drop l.i l.roots)) l.i ≡ first_failing program touched m passed (map root_of l.roots);
      marked : entered (counts_at program touched m) (named l.marked) (root_cells program touched m passed (map root_of (drop l.i l.roots))) ≡ entered (counts_at program touched m) (named l.fn.marked) (root_cells program touched m passed (map root_of l.roots));
    }
