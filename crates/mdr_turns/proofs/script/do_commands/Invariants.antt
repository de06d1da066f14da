use Rattle.std.proofs.Common.{◌≡◌, drop}
use Rattle.mdr_split.specs.Kernel.{split_commands}
use Rattle.mdr_watch.specs.Watching.{driver_in}
use Rattle.mdr_turns.specs.States.{IsBetween, kernel_at}
use Rattle.mdr_turns.proofs.script.do_commands.Given as goal

abbrev pub invariant-loop-i : goal.invariant-loop-i
invariant-loop-i l = record {
  same : split_commands (driver_in l.watch) (drop l.i l.script) (kernel_at l.between) ≡ split_commands (driver_in l.watch) (drop l.fn.from l.script) (kernel_at l.fn.between);
  between : IsBetween l.watch l.between;
}
