use Rattle.std.proofs.Common.{◌≡◌, [], drop}
use Rattle.mdr_plain.specs.Scripts.{commands}
use Rattle.mdr_watched.specs.Watched.{does, held}
use Rattle.mdr_watch.specs.Watching.{driver_in}
use Rattle.mdr_watch.proofs.commands.do_commands.Given as goal

abbrev pub invariant-loop-command : goal.invariant-loop-command
invariant-loop-command l = record {
  rest : commands (does (driver_in l.watch) (held (driver_in l.watch))) (drop l.command-index l.script) l.world.world ≡ commands (does (driver_in l.watch) (held (driver_in l.watch))) l.script l.fn.world.world;
  same : l.world.program ≡ l.watch.program.now;
  alone : l.world.world.views ≡ [];
}
