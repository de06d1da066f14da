use Rattle.std.proofs.Common.{Some, ◌∙◌, ap}
use Rattle.mdr_model.specs.Memory.{leaf_at}
use Rattle.mdr_model.specs.Agreement.{cell_zero}
use Rattle.mdr_copy.proofs.Passing.{zero_typed, zero_none}
use Rattle.mdr_copy.proofs.cell_types.cell_zero.Goals as goal

pub returns-in-Some : goal.returns-in-Some
unfolding cell_zero
returns-in-Some c = ap (λ v. Some v) c.zero.ensures ∙ zero_typed (leaf_at c.args.program.now c.args.block c.args.index) c.in-Some.ty.now c.in-Some.ensures

pub returns-in-None : goal.returns-in-None
unfolding cell_zero
returns-in-None c = zero_none (leaf_at c.args.program.now c.args.block c.args.index) c.in-None.ensures
