use Rattle.std.proofs.Common.{◌≡◌, drop}
use Rattle.mdr_faults.specs.Faults.{told, followed}
use Rattle.mdr_operand.specs.Written.{lines_of}
use Rattle.mdr_body.specs.Statements.{heads_made, heads_behind}
use Rattle.mdr_body.specs.Pieces.{given_setting, tail_in}
use Rattle.mdr_body.proofs.statement.heads.Given as goal

abbrev pub invariant-loop-i : goal.invariant-loop-i
invariant-loop-i g l = record {
  told : followed l.all (told (heads_made (given_setting g.R.Typing.rules l.setting) l.here (tail_in l.parts l.body) (lines_of (drop l.i l.parts.init.now)))) ≡ told (heads_made (given_setting g.R.Typing.rules l.setting) l.initial.here (tail_in l.parts l.body) (lines_of l.parts.init.now));
  grown : heads_behind l.setting.scope.now l.setting.frame.now l.here (tail_in l.parts l.body) (lines_of (drop l.i l.parts.init.now)) ≡ heads_behind l.setting.scope.now l.setting.frame.now l.initial.here (tail_in l.parts l.body) (lines_of l.parts.init.now);
}
