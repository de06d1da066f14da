use Rattle.std.proofs.Common.{ap, sym, ◌∙◌}
use Rattle.std.specs.Prelude.{not}
use Rattle.mdr_core.specs.Layout.{struct_cells}
use Rattle.mdr_fits.proofs.OpenCells.{scalar_open, struct_open}
use Rattle.mdr_fits.proofs.unlocked.element_is_open.Goals as goal

pub returns-in-Some : goal.returns-in-Some
returns-in-Some c = c.struct_is_open.ensures ∙ struct_open (struct_cells c.args.structs.now) c.args.ty.now c.in-Some.s (sym c.struct_named.ensures ∙ c.in-Some.is)

pub returns-in-None : goal.returns-in-None
returns-in-None c = ap not c.is_lock.ensures ∙ scalar_open (struct_cells c.args.structs.now) c.args.ty.now (sym c.struct_named.ensures ∙ c.in-None.is)
