use Rattle.std.proofs.Common.{◌≡◌, drop}
use Rattle.mdr_core.specs.Services.{service_numbered}
use Rattle.mdr_fits.specs.Tables.{arguments_as}
use Rattle.mdr_split.specs.Legal.{args_fault, fits_service}
use Rattle.mdr_split.specs.Services.{types_of}
use Rattle.mdr_legal.specs.Waiting.{driver_at, kernel_at}
use Rattle.mdr_legal.proofs.asked.asked_args_fault.Given as goal

abbrev pub invariant-loop-i : goal.invariant-loop-i
invariant-loop-i l =
    args_fault (fits_service (driver_at l.standing) (kernel_at l.standing) (service_numbered l.service)) l.i (drop l.i (types_of (arguments_as l.arguments) l.args)) (drop l.i l.args)
    ≡ args_fault (fits_service (driver_at l.standing) (kernel_at l.standing) (service_numbered l.service)) 0 (types_of (arguments_as l.arguments) l.args) l.args
