use Rattle.std.proofs.Common.{◌≡◌, drop}
use Rattle.mdr_events.specs.Values.{wires_of}
use Rattle.mdr_plain.specs.Outcome.{met_in}
use Rattle.mdr_shown.specs.Met.{AreNumbered}
use Rattle.mdr_shown.proofs.scan.meet_values.Given as goal

abbrev pub invariant-loop-value : goal.invariant-loop-value
invariant-loop-value l = record {
  numbered : AreNumbered l.met;
  so_far : met_in l.met.serials.items (wires_of (drop l.value-index l.values)) ≡ met_in l.initial.met.serials.items (wires_of l.values);
}
