use Rattle.std.proofs.Common.{true, false}
use Rattle.std.proofs.Math.Path.{sym, ap, ◌∙◌}
use Rattle.std.proofs.lemmas.List.{at_drop_all}
use Rattle.mdr_faults.specs.Faults.{told}
use Rattle.mdr_operand.specs.Written.{line_of, lines_of}
use Rattle.mdr_body.specs.declared.here.Here.{Here}
use Rattle.mdr_body.specs.declared.here.Standing.{Standing}
use Rattle.mdr_body.specs.Statements.{in_part, lines_behind, line_made}
use Rattle.mdr_body.specs.Pieces.{given_setting}
use Rattle.mdr_body.proofs.Apart.{made_simple, behind_made_simple, told_same, grown_same}
use Rattle.mdr_body.proofs.Gathering.{one_line, one_behind_line}
use Rattle.mdr_body.proofs.Switching.{one_clause, one_behind_clause}
use Rattle.mdr_body.proofs.statement.+line.Goals as goal

pub lines-loop-i-preserved : goal.lines-loop-i-preserved
lines-loop-i-preserved g t c = record {
  told = one_line (given_setting g.R.Typing.rules c.args.setting.now) c.args.jumps c.in_list.result c.loop-i.here c.line.new.here c.args.nodes.now c.loop-i.i c.index-nodes-i.result _ c.loop-i.all _ _ c.loop-i-test.true c.index-nodes-i.is c.in_list.ensures c.in_ok-made.ensures.grown c.in_ok-made.ensures.told c.in_ok-all.ensures c.loop-i.invariant.told;
  grown = one_behind_line (given_setting g.R.Typing.rules c.args.setting.now) c.args.jumps c.in_list.result c.loop-i.here c.line.new.here _ c.args.nodes.now c.loop-i.i c.index-nodes-i.result c.loop-i-test.true c.index-nodes-i.is c.in_list.ensures c.in_ok-made.ensures.grown c.loop-i.invariant.grown;
}

pub lines-returns-clause-grown : goal.lines-returns-clause-grown
lines-returns-clause-grown g t c = sym (at_drop_all (λ ys. lines_behind c.args.setting.now.scope.now c.args.setting.now.frame.now c.loop-i.here (lines_of ys)) c.args.nodes.now c.loop-i.i c.loop-i-test.false) ∙ c.loop-i.invariant.grown

pub line_at-returns-in_default : goal.line_at-returns-in_default
line_at-returns-in_default g t c = record {
  told = told_same c.simple_counted.result _ _ (made_simple (given_setting g.R.Typing.rules c.args.setting.now) c.args.standing c.args.here.now c.args.what.now c.in_default.not-Block c.in_default.not-If c.in_default.not-While c.in_default.not-For c.in_default.not-Do c.in_default.not-Switch c.args.place) c.simple_counted.ensures.told;
  grown = grown_same c.simple_counted.result _ _ _ (behind_made_simple c.args.setting.now.scope.now c.args.setting.now.frame.now c.args.here.now c.args.standing.is_taken c.args.what.now c.in_default.not-Block c.in_default.not-If c.in_default.not-While c.in_default.not-For c.in_default.not-Do c.in_default.not-Switch c.args.place) c.simple_counted.ensures.grown;
}

pub if_half-returns-in-Ok-clause-told : goal.if_half-returns-in-Ok-clause-told
if_half-returns-in-Ok-clause-told g t c =
    c.paired.ensures _ _ c.in_ok-head.ensures.told
    (c.in-Ok.ensures.told
    ∙ ap (λ (s : Standing). told (line_made (given_setting g.R.Typing.rules c.args.setting.now) s c.condition_counted.new.here (line_of c.args.one.now))) c.in_part.ensures
    ∙ ap (λ (h : Here). told (line_made (given_setting g.R.Typing.rules c.args.setting.now) (in_part c.args.jumps) h (line_of c.args.one.now))) c.in_ok-head.ensures.grown)

pub clauses_made-loop-i-preserved : goal.clauses_made-loop-i-preserved
clauses_made-loop-i-preserved g t c = record {
  told = one_clause (given_setting g.R.Typing.rules c.args.setting.now) c.args.jumps c.loop-i.here c.clause.new.here c.args.at c.loop-i.seen c.clause.new.seen c.args.clauses.now c.loop-i.i c.index-clauses-i.result c.is_last_at.result _ c.loop-i.all _ _ c.loop-i-test.true c.index-clauses-i.is c.is_last_at.ensures c.in_ok-made.ensures.grown c.in_ok-made.ensures.seen c.in_ok-made.ensures.told c.in_ok-all.ensures c.loop-i.invariant.told;
  grown = one_behind_clause c.args.setting.now.scope.now c.args.setting.now.frame.now c.loop-i.here c.clause.new.here _ c.args.clauses.now c.loop-i.i c.index-clauses-i.result c.loop-i-test.true c.index-clauses-i.is c.in_ok-made.ensures.grown c.loop-i.invariant.grown;
}
