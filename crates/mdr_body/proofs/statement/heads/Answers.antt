use Rattle.std.proofs.Math.Path.{sym, ◌∙◌}
use Rattle.std.proofs.lemmas.List.{at_drop_all}
use Rattle.mdr_operand.specs.Written.{lines_of}
use Rattle.mdr_body.specs.Statements.{heads_behind}
use Rattle.mdr_body.specs.Pieces.{given_setting, tail_in}
use Rattle.mdr_body.proofs.Gathering.{one_head, one_behind_head}
use Rattle.mdr_body.proofs.statement.heads.Goals as goal

pub loop-i-preserved : goal.loop-i-preserved
loop-i-preserved g c = record {
  told = one_head (given_setting g.R.Typing.rules c.args.setting.now) c.loop-i.here c.simple_node.new.here (tail_in c.args.parts c.args.body.now) c.args.parts.init.now c.loop-i.i c.index-init-i.result c.head_taken_in.result _ c.loop-i.all _ _ c.loop-i-test.true c.index-init-i.is c.head_taken_in.ensures c.in_ok-made.ensures.grown c.in_ok-made.ensures.told c.in_ok-all.ensures c.loop-i.invariant.told;
  grown = one_behind_head c.args.setting.now.scope.now c.args.setting.now.frame.now c.loop-i.here c.simple_node.new.here _ (tail_in c.args.parts c.args.body.now) c.args.parts.init.now c.loop-i.i c.index-init-i.result c.head_taken_in.result c.loop-i-test.true c.index-init-i.is c.head_taken_in.ensures c.in_ok-made.ensures.grown c.loop-i.invariant.grown;
}

pub returns-clause-grown : goal.returns-clause-grown
unfolding heads_behind
returns-clause-grown g c = sym (at_drop_all (λ ys. heads_behind c.args.setting.now.scope.now c.args.setting.now.frame.now c.loop-i.here (tail_in c.args.parts c.args.body.now) (lines_of ys)) c.args.parts.init.now c.loop-i.i c.loop-i-test.false) ∙ c.loop-i.invariant.grown
