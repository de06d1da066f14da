use Rattle.std.proofs.Common.{slice_get, ◌∙◌}
use Rattle.mdr_fits.proofs.OpenCells.{named_open, unnamed_open}
use Rattle.mdr_fits.proofs.unlocked.is_unlocked.Goals as goal

pub returns-in-Some : goal.returns-in-Some
returns-in-Some c = (rw c.as_slice.ensures at c.element_is_open.ensures) ∙ named_open c.args.program.now (slice_get c.args.program.now.types c.args.ty) c.in-Some.named.now c.in-Some.ensures

pub returns-in-None : goal.returns-in-None
returns-in-None c = unnamed_open c.args.program.now (slice_get c.args.program.now.types c.args.ty) c.in-None.ensures
