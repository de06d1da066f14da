use Rattle.std.proofs.Common.{map, refl}
use Rattle.mdr_cells.specs.Names.{named}
use Rattle.mdr_meaning.specs.Values.{wire_of}
use Rattle.mdr_reach.specs.Answers.{root_of}
use Rattle.mdr_reach.specs.Marks.{counts_at}
use Rattle.mdr_reach.proofs.FollowLaws.{item_at, root_adds, root_goes, root_stops, roots_added, roots_begin, roots_whole}
use Rattle.mdr_reach.proofs.WorkLaws.{not_false, not_true}
use Rattle.mdr_reach.proofs.follow.enter_roots.Goals as goal

pub returns-then-not-whole-clause-failing : goal.returns-then-not-whole-clause-failing
returns-then-not-whole-clause-failing c =
    root_stops c.args.scene.program.now c.args.scene.touched.now c.args.scene.blocks.now.memory (counts_at c.args.scene.program.now c.args.scene.touched.now c.args.scene.blocks.now.memory) (map wire_of c.args.passed.now) root_of c.args.roots.now c.loop-i.i c.root_at.result _ c.loop-i-test.true (item_at c.args.roots.now c.loop-i.i c.root_at.result c.root_at.ensures) (not_false c.in_ok-whole.whole _ c.in_ok-whole.ensures.whole c.if-not-whole.true) c.loop-i.invariant.failing

pub loop-i-init : goal.loop-i-init
loop-i-init c = record { failing = roots_begin c.args.scene.program.now c.args.scene.touched.now c.args.scene.blocks.now.memory (counts_at c.args.scene.program.now c.args.scene.touched.now c.args.scene.blocks.now.memory) (map wire_of c.args.passed.now) root_of c.args.roots.now; marked = refl }

pub loop-i-preserved : goal.loop-i-preserved
loop-i-preserved c = record {
  failing = root_goes c.args.scene.program.now c.args.scene.touched.now c.args.scene.blocks.now.memory (counts_at c.args.scene.program.now c.args.scene.touched.now c.args.scene.blocks.now.memory) (map wire_of c.args.passed.now) root_of c.args.roots.now c.loop-i.i c.root_at.result _ c.loop-i-test.true (item_at c.args.roots.now c.loop-i.i c.root_at.result c.root_at.ensures) (not_true c.in_ok-whole.whole _ c.in_ok-whole.ensures.whole c.if-not-whole.false) c.loop-i.invariant.failing;
  marked = root_adds c.args.scene.program.now c.args.scene.touched.now c.args.scene.blocks.now.memory (counts_at c.args.scene.program.now c.args.scene.touched.now c.args.scene.blocks.now.memory) (map wire_of c.args.passed.now) root_of c.args.roots.now c.loop-i.i c.root_at.result (named c.loop-i.marked) (named c.enter_root.new.marked) _ c.loop-i-test.true (item_at c.args.roots.now c.loop-i.i c.root_at.result c.root_at.ensures) c.in_ok-whole.ensures.marked c.loop-i.invariant.marked;
}

pub returns-clause-failing : goal.returns-clause-failing
returns-clause-failing c = roots_whole c.args.scene.program.now c.args.scene.touched.now c.args.scene.blocks.now.memory (counts_at c.args.scene.program.now c.args.scene.touched.now c.args.scene.blocks.now.memory) (map wire_of c.args.passed.now) root_of c.args.roots.now c.loop-i.i _ c.loop-i-test.false c.loop-i.invariant.failing

pub returns-clause-marked : goal.returns-clause-marked
returns-clause-marked c t = roots_added c.args.scene.program.now c.args.scene.touched.now c.args.scene.blocks.now.memory (counts_at c.args.scene.program.now c.args.scene.touched.now c.args.scene.blocks.now.memory) (map wire_of c.args.passed.now) root_of c.args.roots.now c.loop-i.i (named c.loop-i.marked) _ c.loop-i-test.false c.loop-i.invariant.marked
