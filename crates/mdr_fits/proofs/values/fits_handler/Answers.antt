use Rattle.std.proofs.Common.{◌∙◌}
use Rattle.mdr_fits.proofs.Layers.{handler_fits}
use Rattle.mdr_fits.specs.Judged.{places_of}
use Rattle.mdr_fits.proofs.values.fits_handler.Goals as goal

pub returns : goal.returns
returns c = c.is_null_or_handler.ensures ∙ handler_fits (places_of c.args.places) c.args.value
