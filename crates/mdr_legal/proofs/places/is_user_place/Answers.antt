use Rattle.std.proofs.Common.{sym, ◌∙◌}
use Rattle.mdr_legal.proofs.OfHalves.{place_unless, place_when}
use Rattle.mdr_legal.proofs.places.is_user_place.Goals as goal

pub returns-then-is_user : goal.returns-then-is_user
returns-then-is_user c = place_when c.args.standing.program.now c.args.standing.plan.now c.args.at c.has_statement.result (sym c.is_user.ensures ∙ c.if-is_user.true) c.has_statement.ensures

pub returns-else-is_user : goal.returns-else-is_user
returns-else-is_user c = c.if-is_user.false ∙ place_unless c.args.standing.program.now c.args.standing.plan.now c.args.at (sym c.is_user.ensures ∙ c.if-is_user.false)
