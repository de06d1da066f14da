use Rattle.std.proofs.Common.{◌≡◌, [], drop}
use Rattle.mdr_script.specs.Binding.{commands_behind}
use Rattle.mdr_script.proofs.binding.bind_commands.Given as goal

abbrev pub invariant-loop-line : goal.invariant-loop-line
invariant-loop-line l = commands_behind l.program l.commands (drop l.line-index l.lines) ≡ commands_behind l.program [] l.lines
