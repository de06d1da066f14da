use Rattle.std.proofs.Common.{ap, arith, length, take}
use Rattle.mdr_cells.specs.Names.{cell_of, named}
use Rattle.mdr_reach.specs.Marks.{counts_in, graph_in, led_in}
use Rattle.mdr_reach.proofs.BlockLaws.{last_of}
use Rattle.mdr_reach.proofs.WorkLaws.{all_rising, counted_is, edges_are, followed_more, found_all, named_at, named_count, named_past, next_turn, turn_less}
use Rattle.mdr_reach.proofs.reaching.reached.Goals as goal

pub loop-i-init : goal.loop-i-init
loop-i-init c = (λ roots had. had, tt)

pub loop-i-preserved : goal.loop-i-preserved
loop-i-preserved c = (
  λ roots had.
      let program = c.args.scene.program.now in
      let touched = c.args.scene.touched.now in
      let m = c.args.scene.blocks.now.memory in
      let rising = c.births-in_order.ensures.in_order.rises in
      let name = c.name_at-name.result in
      let before = c.loop-i.invariant.0 roots had in
      next_turn (graph_in c.args.scene) roots (named c.follow_on.new.marked) c.loop-i.i c.in_ok-failing.failing
      (followed_more (graph_in c.args.scene) (counts_in c.args.scene) (counted_is program touched m rising) roots (named c.loop-i.marked) (named c.follow_on.new.marked) (led_in c.args.scene (cell_of name)) c.loop-i.i (cell_of name)
      c.loop-i.failing c.in_ok-failing.failing
      (named_at c.loop-i.marked c.loop-i.i name c.name_at-name.ensures)
      (c.in_ok-failing.ensures.least (take c.loop-i.i (named c.loop-i.marked)) before.least)
      (edges_are program touched m rising (cell_of name))
      c.in_ok-failing.ensures.marked before),
  last_of c.args.scene.program.now c.args.scene.touched.now c.args.scene.blocks.now c.name_at-name.result.serial c.block_behind-block.result c.block_behind-block.ensures.held,
)

pub loop-i-smaller : goal.loop-i-smaller
loop-i-smaller c =
    turn_less (graph_in c.args.scene) (counts_in c.args.scene) (counted_is c.args.scene.program.now c.args.scene.touched.now c.args.scene.blocks.now.memory c.births-in_order.ensures.in_order.rises)
    (named c.loop-i.marked) (named c.follow_on.new.marked) (led_in c.args.scene (cell_of c.name_at-name.result)) c.loop-i.i
    (omega (arith, named_count c.loop-i.marked, ap length c.names.ensures, c.loop-i-test.true)) c.in_ok-failing.ensures.marked

pub returns : goal.returns
returns c roots had =
    let program = c.args.scene.program.now in
    let touched = c.args.scene.touched.now in
    let m = c.args.scene.blocks.now.memory in
    let rising = c.births-in_order.ensures.in_order.rises in
    found_all (graph_in c.args.scene) (counts_in c.args.scene) (counted_is program touched m rising) roots (all_rising program touched m rising) c.loop-i.marked c.loop-i.i c.loop-i.failing c.unless_failing.result
    (named_past c.loop-i.marked c.loop-i.i (omega (arith, ap length c.names.ensures, c.loop-i-test.false))) (c.loop-i.invariant.0 roots had) c.unless_failing.ensures
