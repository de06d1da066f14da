use Rattle.std.proofs.Common.{◌∙◌, ap}
use Rattle.mdr_watch.specs.Commanding.{finishes_in}
use Rattle.mdr_watch.specs.Watching.{driver_in}
use Rattle.mdr_world.specs.Driven.{Driven}
use Rattle.mdr_watch.proofs.Scripted.{kernel_worked}
use Rattle.mdr_watch.proofs.commands.kernel_call.Goals as goal

pub enters-requires-clause-alone : goal.enters-requires-clause-alone
enters-requires-clause-alone c = ap (λ (d : Driven). d.world.views) c.in_ok-noted.ensures ∙ c.requires.alone

pub returns-clause-worked : goal.returns-clause-worked
returns-clause-worked c =
    kernel_worked (driver_in c.args.watch) c.args.func c.args.args.now c.args.world c.in_ok-noted.noted c.requires.same c.in_ok-noted.ensures c.in_ok-closed.closed.gave c.in_ok-did.did.worked c.in_ok-closed.closed.world.world c.in_ok-did.did.world.world
    (finishes_in c.args.watch c.in_ok-reached.reached.went c.in_ok-reached.reached.world.world) c.requires.kernel c.in_ok-closed.ensures.gave c.in_ok-reached.ensures.went c.in_ok-did.ensures.worked
