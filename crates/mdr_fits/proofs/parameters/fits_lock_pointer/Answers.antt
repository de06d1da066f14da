use Rattle.std.proofs.Common.{◌∙◌}
use Rattle.mdr_fits.proofs.Layers.{lock_fits}
use Rattle.mdr_fits.specs.Judged.{places_of}
use Rattle.mdr_fits.proofs.parameters.fits_lock_pointer.Goals as goal

pub returns : goal.returns
returns c = c.fits_pointer.ensures ∙ lock_fits (places_of c.args.places) c.args.value
