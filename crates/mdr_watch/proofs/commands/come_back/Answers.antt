use Rattle.mdr_whole.specs.Going.{driver_code}
use Rattle.mdr_watch.specs.Watching.{driver_in}
use Rattle.mdr_watch.proofs.Alone.{none_returned}
use Rattle.mdr_watch.proofs.commands.come_back.Goals as goal

pub returns-in-Ok-clause-alone : goal.returns-in-Ok-clause-alone
returns-in-Ok-clause-alone c =
    none_returned (driver_in c.args.watch) (driver_code c.kernel_code.result) c.args.closed.gave c.in-Ok.worked c.args.closed.world.world c.returned.new.world.world c.kernel_code.ensures.code c.requires.alone c.in-Ok.ensures.worked
