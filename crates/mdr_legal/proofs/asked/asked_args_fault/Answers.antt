use Rattle.std.proofs.Common.{ℕ, ◌<◌, ◌≤◌, length, subst, sym, ◌∙◌}
use Rattle.mdr_core.specs.Services.{service_numbered}
use Rattle.mdr_fits.proofs.ArgumentTests.{all_fit, fails_here, fits_on, too_few}
use Rattle.mdr_fits.specs.Tables.{arguments_as}
use Rattle.mdr_split.specs.Legal.{fits_service}
use Rattle.mdr_split.specs.Services.{types_of}
use Rattle.mdr_legal.specs.Waiting.{driver_at, kernel_at}
use Rattle.mdr_legal.proofs.asked.asked_args_fault.Goals as goal

pub returns-then-not-fits_at : goal.returns-then-not-fits_at
returns-then-not-fits_at c =
    c.fault.ensures
    ∙ fails_here (fits_service (driver_at c.args.standing) (kernel_at c.args.standing) (service_numbered c.args.service)) (types_of (arguments_as c.args.arguments) c.args.args.now) c.args.args.now c.loop-i.i _ _ c.loop-i-test.true (sym c.if-not-fits_at.ensures) c.loop-i.invariant

pub loop-i-preserved : goal.loop-i-preserved
loop-i-preserved c = fits_on (fits_service (driver_at c.args.standing) (kernel_at c.args.standing) (service_numbered c.args.service)) (types_of (arguments_as c.args.arguments) c.args.args.now) c.args.args.now c.loop-i.i _ _ c.loop-i-test.true (sym c.if-not-fits_at.ensures) c.loop-i.invariant

pub returns-then-args-how_many : goal.returns-then-args-how_many
returns-then-args-how_many c =
    c.fault-then-args-how_many.ensures
    ∙ too_few (fits_service (driver_at c.args.standing) (kernel_at c.args.standing) (service_numbered c.args.service)) (types_of (arguments_as c.args.arguments) c.args.args.now) c.args.args.now c.loop-i.i _ c.loop-i.auto.i-end c.loop-i-test.false
    (subst (λ (n : ℕ). length c.args.args.now < n) c.how_many.ensures c.if-args-how_many.true) c.loop-i.invariant

pub returns-else-args-how_many : goal.returns-else-args-how_many
returns-else-args-how_many c =
    all_fit (fits_service (driver_at c.args.standing) (kernel_at c.args.standing) (service_numbered c.args.service)) (types_of (arguments_as c.args.arguments) c.args.args.now) c.args.args.now c.loop-i.i _ c.loop-i.auto.i-end c.loop-i-test.false
    (subst (λ (n : ℕ). n ≤ length c.args.args.now) c.how_many.ensures c.if-args-how_many.false) c.loop-i.invariant
