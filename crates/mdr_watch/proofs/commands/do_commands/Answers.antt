use Rattle.mdr_watch.specs.Watching.{driver_in}
use Rattle.mdr_watch.proofs.Scripted.{ends_at}
use Rattle.mdr_watch.proofs.commands.do_commands.Goals as goal

pub do_watched-requires-clause-same : goal.do_watched-requires-clause-same
do_watched-requires-clause-same c = c.loop-command.invariant.same

pub do_watched-requires-clause-alone : goal.do_watched-requires-clause-alone
do_watched-requires-clause-alone c = c.loop-command.invariant.alone

pub returns-clause-finished : goal.returns-clause-finished
returns-clause-finished c = ends_at (driver_in c.args.watch) c.args.script.now c.loop-command.command-index c.loop-command.world.world c.args.world.world c.loop-command-test.false c.loop-command.invariant.rest
