use Rattle.std.proofs.Common.{◌≤◌, List, length, subst}
use Rattle.mdr_core.specs.declared.types.Ty.{Ty}
use Rattle.mdr_fits.proofs.TypeTests.{no_view, view_tested}
use Rattle.mdr_fits.proofs.views.is_view_of.Goals as goal

pub returns-then-block-as_slice : goal.returns-then-block-as_slice
returns-then-block-as_slice c = view_tested c.args.program.now c.requires c.args.block c.args.view c.shape_of.result c.view_of.result c.view_ok.result c.shape_of.ensures c.view_of.ensures c.view_ok.ensures

pub returns-else-block-as_slice : goal.returns-else-block-as_slice
returns-else-block-as_slice c = no_view c.args.program.now c.args.block c.args.view (subst (λ (ts : List Ty). length ts ≤ c.args.block.ty) c.as_slice.ensures c.if-block-as_slice.false)
