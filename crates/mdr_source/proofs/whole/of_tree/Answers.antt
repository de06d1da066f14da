use Rattle.std.proofs.Common.{subst, sym}
use Rattle.mdr_source.specs.Sources.{Means, Reading}
use Rattle.mdr_source.proofs.whole.of_tree.Goals as goal

pub returns-in-Ok-Ok : goal.returns-in-Ok-Ok
returns-in-Ok-Ok c = λ ts reads. Reading.right c.args.tree c.in-Ok-Ok.program reads (subst (λ r. Means c.args.tree r) c.in-Ok-Ok.field-0-is c.in-Ok-Ok.ensures)

pub returns-in-Ok-Err : goal.returns-in-Ok-Err
returns-in-Ok-Err c = λ ts reads. subst (λ r. Reading ts r) (sym c.refused.ensures) (Reading.refused c.args.tree c.in-Ok-Err.refusal reads (subst (λ r. Means c.args.tree r) c.in-Ok-Err.field-0-is c.in-Ok-Err.ensures))
