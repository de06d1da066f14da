use Rattle.std.proofs.Common.{◌∙◌, ap}
use Rattle.mdr_watch.specs.Watching.{driver_in}
use Rattle.mdr_world.specs.Driven.{Driven}
use Rattle.mdr_watch.proofs.Scripted.{user_worked}
use Rattle.mdr_watch.proofs.commands.upcall_command.Goals as goal

pub returns-clause-worked : goal.returns-clause-worked
returns-clause-worked c =
    user_worked (driver_in c.args.watch) c.args.func c.args.args.now c.args.world c.in_ok-noted.noted c.requires.same c.in_ok-noted.ensures c.in_ok-closed.closed.gave c.in_ok-did.did.worked c.in_ok-closed.closed.world.world c.in_ok-did.did.world.world
    c.requires.user c.in_ok-closed.ensures.gave c.in_ok-did.ensures.worked

pub call_user-requires-clause-alone : goal.call_user-requires-clause-alone
call_user-requires-clause-alone c = ap (λ (d : Driven). d.world.views) c.in_ok-noted.ensures ∙ c.requires.alone
