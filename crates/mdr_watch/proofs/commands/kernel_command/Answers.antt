use Rattle.mdr_whole.specs.Going.{driver_code}
use Rattle.mdr_watch.specs.Watching.{driver_in}
use Rattle.mdr_watch.proofs.Alone.{none_done}
use Rattle.mdr_watch.proofs.Scripted.{no_call_for}
use Rattle.mdr_watch.proofs.commands.kernel_command.Goals as goal

pub returns-in-Ok-clause-worked : goal.returns-in-Ok-clause-worked
returns-in-Ok-clause-worked c =
    no_call_for (driver_in c.args.watch) (driver_code c.kernel_code.result) c.args.command.now c.in-Ok.worked c.args.world.world c.do_command.new.world.world c.kernel_code.ensures.code c.requires.none c.in-Ok.ensures.worked

pub returns-in-Ok-clause-alone : goal.returns-in-Ok-clause-alone
returns-in-Ok-clause-alone c =
    none_done (driver_in c.args.watch) (driver_code c.kernel_code.result) c.args.command.now c.in-Ok.worked c.args.world.world c.do_command.new.world.world c.kernel_code.ensures.code c.requires.alone c.in-Ok.ensures.worked
