use Rattle.std.proofs.Common.{arith, vec_items}
use Rattle.mdr_paths.proofs.MarkLaws.{work_begins, todo_inside, work_goes_on, work_falls, work_done}
use Rattle.mdr_paths.proofs.worklist.reached.Goals as goal

pub loop-node-init : goal.loop-node-init
loop-node-init c = work_begins vec_items c.args.edges.now c.args.roots.now c.in_ok-marks.marks.items _ _ _ (c.in_ok-marks.ensures.items_if_clones_equal (λ y e. e)) c.new-todo.ensures.items c.in_ok-enter_all.ensures.marks c.in_ok-enter_all.ensures.todo

pub bounds-edges-node : goal.bounds-edges-node
bounds-edges-node c = todo_inside vec_items c.args.edges.now c.args.roots.now c.loop-node.marks.items _ _ c.in-Some.node c.loop-node.invariant c.in-Some.ensures.items

pub loop-node-preserved : goal.loop-node-preserved
loop-node-preserved c = work_goes_on vec_items c.args.edges.now c.args.roots.now c.loop-node.marks.items _ _ _ _ _ c.in-Some.node c.index-edges-node.result c.loop-node.invariant c.in-Some.ensures.items c.index-edges-node.is c.deref.ensures.value c.in_ok-enter_all-2.ensures.marks c.in_ok-enter_all-2.ensures.todo

pub loop-node-smaller : goal.loop-node-smaller
loop-node-smaller c = work_falls c.loop-node.marks.items _ _ _ _ c.deref.result.now c.in-Some.node c.in-Some.ensures.items c.in_ok-enter_all-2.ensures.marks c.in_ok-enter_all-2.ensures.todo

pub returns : goal.returns
returns c = work_done _ c.args.roots.now c.loop-node.marks.items c.loop-node.todo.items c.loop-node.invariant (omega (arith, c.loop-node.todo.ok.0, c.in_default.ensures.cases.0))
