use Rattle.std.proofs.Common.{◌≡◌, [], drop}
use Rattle.mdr_faults.specs.Faults.{told, followed}
use Rattle.mdr_operand.specs.Written.{lines_of, clauses_of}
use Rattle.mdr_body.specs.Statements.{lines_made, lines_behind, clauses_made, clauses_behind}
use Rattle.mdr_body.specs.Pieces.{given_setting}
use Rattle.mdr_body.proofs.statement.+line.Given as goal

abbrev pub invariant-lines-loop-i : goal.invariant-lines-loop-i
invariant-lines-loop-i g l = record {
  told : followed l.all (told (lines_made (given_setting g.R.Typing.rules l.setting) l.jumps l.here (lines_of (drop l.i l.nodes)))) ≡ told (lines_made (given_setting g.R.Typing.rules l.setting) l.jumps l.initial.here (lines_of l.nodes));
  grown : lines_behind l.setting.scope.now l.setting.frame.now l.here (lines_of (drop l.i l.nodes)) ≡ lines_behind l.setting.scope.now l.setting.frame.now l.initial.here (lines_of l.nodes);
}

abbrev pub invariant-clauses_made-loop-i : goal.invariant-clauses_made-loop-i
invariant-clauses_made-loop-i g l = record {
  told : followed l.all (told (clauses_made (given_setting g.R.Typing.rules l.setting) l.jumps l.here l.at l.seen (clauses_of (drop l.i l.clauses)))) ≡ told (clauses_made (given_setting g.R.Typing.rules l.setting) l.jumps l.initial.here l.at [] (clauses_of l.clauses));
  grown : clauses_behind l.setting.scope.now l.setting.frame.now l.here (clauses_of (drop l.i l.clauses)) ≡ clauses_behind l.setting.scope.now l.setting.frame.now l.initial.here (clauses_of l.clauses);
}
