use Rattle.std.proofs.Common.{◌-◌, ◌≡◌, ◌+◌, ◌≤◌, ◌++◌, length}
use Rattle.mdr_exchanges.specs.Calls.{IsPlace, sends}
use Rattle.mdr_exchanges.specs.Runs.{answers_of, sent_of}
use Rattle.mdr_near.proofs.Steps.{Stands}
use Rattle.mdr_near.proofs.run.run_script.Given as goal
use Rattle.mdr_outside.specs.Far.{IsLoaded}
use Rattle.mdr_turns.specs.Coming.{KeptFor}
use Rattle.mdr_watch.specs.Watching.{driver_in}

abbrev pub invariant-loop-turns : goal.invariant-loop-turns
invariant-loop-turns g l = record {
  stands : Stands (driver_in l.watch) l.script l.ticks (g.F.Far.exchanges l.far) l.pending;
  kept : KeptFor l.watch l.pending;
  called : g.F.Far.calls l.far ≡ g.F.Far.calls l.fn.far ++ sends (sent_of (g.F.Far.exchanges l.far));
  counted : l.messages ≡ length (g.F.Far.exchanges l.far) + length (answers_of (g.F.Far.exchanges l.far));
  place : IsPlace (driver_in l.watch) l.script l.ticks (answers_of (g.F.Far.exchanges l.far)) l.memory.items;
  loaded : IsLoaded (g.F.Far.loaded l.far);
  same : g.F.Far.loaded l.far ≡ g.F.Far.loaded l.fn.far;
  later : g.F.Far.faults l.fn.far ≤ g.F.Far.faults l.far;
}

abbrev pub decreases-loop-turns : goal.decreases-loop-turns
decreases-loop-turns g l = 18446744073709551615 - l.turns
