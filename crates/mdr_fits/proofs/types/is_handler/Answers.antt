use Rattle.std.proofs.Common.{◌≡◌, ℕ, subst, sym, ◌∙◌}
use Rattle.mdr_fits.proofs.TypeTests.{handler_unless, handler_when}
use Rattle.mdr_fits.proofs.types.is_handler.Goals as goal

pub returns-then-len-eq0 : goal.returns-then-len-eq0
returns-then-len-eq0 c = handler_when c.args.func.now c.same_type.result (sym c.len.ensures ∙ c.if-len-eq0.true) c.same_type.ensures

pub returns-else-len-eq0 : goal.returns-else-len-eq0
returns-else-len-eq0 c = handler_unless c.args.func.now (λ e. c.if-len-eq0.false (c.len.ensures ∙ e))
