use Rattle.std.proofs.Common.{refl, slice_get}
use Rattle.mdr_core.specs.Services.{service_numbered}
use Rattle.mdr_fits.specs.Tables.{arguments_as}
use Rattle.mdr_split.specs.Legal.{fits_service}
use Rattle.mdr_split.specs.Services.{types_of}
use Rattle.mdr_legal.specs.Waiting.{driver_at, kernel_at}
use Rattle.mdr_legal.proofs.Terms.{argument_fits, no_argument}
use Rattle.mdr_legal.proofs.asked.fits_at.Goals as goal

pub returns-in-Some : goal.returns-in-Some
returns-in-Some c =
    argument_fits (fits_service (driver_at c.args.standing) (kernel_at c.args.standing) (service_numbered c.args.service)) (slice_get (types_of (arguments_as c.args.arguments) c.args.args.now) c.args.i)
    c.parameter.result c.in-Some.parameter c.args.value c.fits_argument.result c.in-Some.is (c.parameter.ensures c.args.args.now refl) c.fits_argument.ensures

pub returns-in-None : goal.returns-in-None
returns-in-None c =
    no_argument (fits_service (driver_at c.args.standing) (kernel_at c.args.standing) (service_numbered c.args.service)) (slice_get (types_of (arguments_as c.args.arguments) c.args.args.now) c.args.i)
    c.parameter.result c.args.value c.in-None.is (c.parameter.ensures c.args.args.now refl)
