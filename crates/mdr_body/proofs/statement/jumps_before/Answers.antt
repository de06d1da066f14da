use Rattle.std.proofs.Math.Path.{sym, ◌∙◌}
use Rattle.mdr_body.proofs.Switching.{other_jumps}
use Rattle.mdr_body.proofs.statement.jumps_before.Goals as goal

pub returns-else-is_empty : goal.returns-else-is_empty
returns-else-is_empty c = c.inner_jumps.ensures ∙ other_jumps c.args.jumps c.args.rest.now (sym c.is_empty.ensures ∙ c.if-is_empty.false)
