use Rattle.std.proofs.Common.{length, ◌-◌, ◌≤◌, take}
use Rattle.mdr_top.specs.Writing.{Adds}
use Rattle.mdr_top.proofs.Pieces.{OfferedSo}
use Rattle.mdr_top.proofs.top.written.Given as goal

abbrev pub invariant-loop-used : goal.invariant-loop-used
invariant-loop-used g l = record {
  within : l.used ≤ length l.text;
  added : Adds (g.O.Sink.written l.fn.out) (g.O.Sink.written l.out) (take l.used l.text);
  offered : OfferedSo (g.O.Sink.calls l.fn.out) (g.O.Sink.calls l.out) l.text l.used;
  later : g.O.Sink.faults l.fn.out ≤ g.O.Sink.faults l.out;
}

abbrev pub decreases-loop-used : goal.decreases-loop-used
decreases-loop-used g l = length l.text - l.used
