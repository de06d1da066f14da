use Rattle.std.proofs.Common.{sym, ap, ◌∙◌}
use Rattle.std.specs.Prelude.{not}
use Rattle.mdr_legal.proofs.OfHalves.{kernel_unless, kernel_when}
use Rattle.mdr_legal.proofs.places.is_kernel_half.Goals as goal

pub returns-then-not-is_user : goal.returns-then-not-is_user
returns-then-not-is_user c = kernel_when c.args.standing.program.now c.args.standing.plan.now c.args.func c.has_body.result (sym c.is_user.ensures ∙ c.if-not-is_user.true) c.has_body.ensures

pub returns-else-not-is_user : goal.returns-else-not-is_user
returns-else-not-is_user c = ap not c.if-not-is_user.false ∙ kernel_unless c.args.standing.program.now c.args.standing.plan.now c.args.func (sym c.is_user.ensures ∙ c.if-not-is_user.false)
