use Rattle.std.proofs.Math.Path.{sym}
use Rattle.mdr_body.proofs.Apart.{apart, behind_made_plain, always}
use Rattle.mdr_body.proofs.simple.simple_made.Goals as goal

pub returns-in_default : goal.returns-in_default
returns-in_default g c = record {
  told = c.plain_made.ensures c.args.standing.is_taken (apart c.args.what.now c.in_default.not-Local c.args.place);
  grown = always c.plain_made.result _ (sym (behind_made_plain c.args.setting.now.scope.now c.args.setting.now.frame.now c.args.here.now c.args.standing.is_taken c.args.what.now c.in_default.not-Local c.args.place));
}
