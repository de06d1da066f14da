use Rattle.std.proofs.Common.{◌≤◌, List, length, subst}
use Rattle.mdr_core.specs.declared.types.Ty.{Ty}
use Rattle.mdr_user_code.proofs.KeyLaws.{in_size, no_size, no_type, past_size}
use Rattle.mdr_user_code.proofs.keys.element_key.Goals as goal

pub returns-then-block-as_slice : goal.returns-then-block-as_slice
returns-then-block-as_slice c = no_type c.args.program.now c.args.block c.args.index (subst (λ (ts : List Ty). length ts ≤ c.args.block.ty) c.as_slice.ensures c.if-block-as_slice.true)

pub returns-then-size-eq0 : goal.returns-then-size-eq0
returns-then-size-eq0 c = no_size c.args.program.now c.args.block c.args.index c.cells_of-size.result c.cells_of-size.ensures c.if-size-eq0.true

pub returns-then-index-size : goal.returns-then-index-size
returns-then-index-size c = past_size c.args.program.now c.args.block c.args.index c.cells_of-size.result c.cells_of-size.ensures c.if-index-size.true

pub returns : goal.returns
returns c = in_size c.args.program.now c.args.block c.args.index c.cells_of-size.result c.key_of.result c.cells_of-size.ensures c.if-size-eq0.false c.if-index-size.false c.key_of.ensures
