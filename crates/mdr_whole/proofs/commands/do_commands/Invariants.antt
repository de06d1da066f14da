use Rattle.std.proofs.Common.{◌≡◌, drop}
use Rattle.mdr_plain.specs.Plain.{does}
use Rattle.mdr_plain.specs.Scripts.{commands}
use Rattle.mdr_whole.specs.Going.{driver_code}
use Rattle.mdr_whole.proofs.commands.do_commands.Given as goal

abbrev pub invariant-loop-command : goal.invariant-loop-command
invariant-loop-command l = record {
  rest : commands (does (driver_code l.code)) (drop l.command-index l.script) l.world.world ≡ commands (does (driver_code l.code)) l.script l.fn.world.world;
  same : l.world.program ≡ l.code.program.now;
}
