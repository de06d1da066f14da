use Rattle.std.proofs.Common.{sym, ◌∙◌}
use Rattle.mdr_legal.proofs.OfHalves.{user_unless, user_when}
use Rattle.mdr_legal.proofs.places.is_user_half.Goals as goal

pub returns-then-is_user : goal.returns-then-is_user
returns-then-is_user c = user_when c.args.standing.program.now c.args.standing.plan.now c.args.func c.has_body.result (sym c.is_user.ensures ∙ c.if-is_user.true) c.has_body.ensures

pub returns-else-is_user : goal.returns-else-is_user
returns-else-is_user c = c.if-is_user.false ∙ user_unless c.args.standing.program.now c.args.standing.plan.now c.args.func (sym c.is_user.ensures ∙ c.if-is_user.false)
