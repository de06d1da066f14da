use Rattle.std.proofs.Common.{◌∙◌}
use Rattle.mdr_fits.proofs.RowTests.{leaf_fits, no_leaf}
use Rattle.mdr_fits.specs.Judged.{places_of}
use Rattle.mdr_model.specs.Memory.{leaf_at}
use Rattle.mdr_split.specs.Fits.{fits}
use Rattle.mdr_fits.proofs.faults.fits_in.Goals as goal

pub returns-in-Some : goal.returns-in-Some
returns-in-Some c = c.fits.ensures ∙ leaf_fits (fits (places_of c.args.places)) (leaf_at c.args.places.program.now c.args.block c.args.index) c.in-Some.ty.now c.args.value c.in-Some.ensures

pub returns-in-None : goal.returns-in-None
returns-in-None c = no_leaf (fits (places_of c.args.places)) (leaf_at c.args.places.program.now c.args.block c.args.index) c.args.value c.in-None.ensures
