use Rattle.std.proofs.Common.{subst}
use Rattle.mdr_cells.specs.Names.{cell_of, named}
use Rattle.mdr_extents.specs.Reaching.{beginning}
use Rattle.mdr_reach.specs.Marks.{IsFound, graph_in}
use Rattle.mdr_reach.proofs.WorkLaws.{cell_fails, set_is}
use Rattle.mdr_reach.proofs.reaching.set_from.Goals as goal

pub returns-in_ok-set-in-Ok : goal.returns-in_ok-set-in-Ok
returns-in_ok-set-in-Ok c known roots begun =
    let program = c.args.scene.program.now in
    let touched = c.args.scene.touched.now in
    let m = c.args.scene.blocks.now.memory in
    let all = beginning program touched m known roots in
    set_is program touched m c.births-in_order.ensures.in_order.rises known roots (named c.in-Ok.all) c.in_ok-set-in-Ok.set begun.passes
    (subst (IsFound (graph_in c.args.scene) all) c.in-Ok.is (c.in_ok-all.ensures all begun.followed))
    c.in_ok-set-in-Ok.ensures.rises c.in_ok-set-in-Ok.ensures.same

pub returns-in-Err : goal.returns-in-Err
returns-in-Err c known roots begun =
    let program = c.args.scene.program.now in
    let touched = c.args.scene.touched.now in
    let m = c.args.scene.blocks.now.memory in
    let all = beginning program touched m known roots in
    cell_fails program touched m c.births-in_order.ensures.in_order.rises known roots (cell_of c.in-Err.name) begun.passes
    (subst (IsFound (graph_in c.args.scene) all) c.in-Err.is (c.in_ok-all.ensures all begun.followed))
