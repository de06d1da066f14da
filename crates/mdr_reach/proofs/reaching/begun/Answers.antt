use Rattle.std.proofs.Common.{◌∙◌, sym}
use Rattle.mdr_cells.specs.Names.{named}
use Rattle.mdr_reach.specs.Answers.{roots_of}
use Rattle.mdr_reach.proofs.WorkLaws.{begun_is}
use Rattle.mdr_reach.proofs.reaching.begun.Goals as goal

pub returns-in-Some : goal.returns-in-Some
returns-in-Some c = sym c.in_ok-number.ensures.failing ∙ c.in-Some.is

pub returns-in-None : goal.returns-in-None
returns-in-None c = record {
  passes = sym c.in_ok-number.ensures.failing ∙ c.in-None.is;
  followed = begun_is c.args.scene.program.now c.args.scene.touched.now c.args.scene.blocks.now.memory c.births-in_order.ensures.in_order.rises c.args.known.now (named c.names.result.now) (named c.in_ok-marked.marked) (named c.enter_names.new.marked) (named c.enter_roots.new.marked)
      (roots_of c.args.roots.now c.args.passed.now) c.in_ok-marked.ensures c.in_ok-enter_names.ensures c.names.ensures.items (c.in_ok-number.ensures.marked c.in-None.is);
}
